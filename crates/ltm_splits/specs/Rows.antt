-- Split rows as contracts see them: a list in the order of their keys.
use Rattle.std.specs.Prelude.{ℕ, ◌≢◌, ◌<◌, ◌⊎◌, Bool, Option, Some, None, ◌==◌, ◌&&◌, if◌then◌else◌, nat_le, List, length, sum, All, filter, slice_get, is_none, Result, Ok, Err}
use Rattle.std.specs.Option.{option_map}
use Rattle.std.specs.List.{last_or}
use Rattle.std.specs.Map.{lookup, remove_entry, keys_of}
use Rattle.std.specs.List.Sorted.{IsStrictlySortedBy}
use Rattle.std.specs.BTreeMap.{insert_entry, is_at}
use Rattle.std.specs.declared.cmp.Ordering.{Ordering}
use Rattle.std.specs.Ordering.{nat_cmp, ordering_then}
use Rattle.ltm_splits.specs.Weights.{AreWeights}
use Rattle.ltm_splits.specs.declared.keys.SplitKey.{SplitKey}
use Rattle.ltm_splits.specs.declared.keys.SplitFault.{SplitFault}
use Rattle.ltm_splits.specs.declared.keys.SplitFault.TheVariants.{BadSlots, ZeroWeight, TooManyRows}

-- by node, then by destination, then by first slot
abbrev pub split_cmp : SplitKey → SplitKey → Ordering
split_cmp a b = ordering_then (nat_cmp a.node.0 b.node.0) (ordering_then (nat_cmp a.destination b.destination) (nat_cmp a.from b.from))

-- a key, and a weight for each out-link in order of link number
abbrev pub SplitRow : Type 0
SplitRow = SplitKey × List ℕ

-- the horizon, how many rows there may be, and the rows in the order of their keys
pub record SplitsData : Type 0 where
  pub slots : ℕ
  pub most_rows : ℕ
  pub rows : List SplitRow

-- each key is below those after it
abbrev pub IsOrdered : List SplitRow → Type 0
IsOrdered rows = IsStrictlySortedBy split_cmp (keys_of rows)

-- each row has weights: at most four, not all of them 0, and each fits 32 bits
abbrev pub HaveWeights : List SplitRow → Type 0
HaveWeights rows = All (λ row. AreWeights row.1) rows

abbrev pub with_rows : SplitsData → List SplitRow → SplitsData
with_rows d rows = record d { rows = rows }

abbrev pub with_slots : SplitsData → ℕ → SplitsData
with_slots d slots = record d { slots = slots }

abbrev pub key_of : ℕ → ℕ → ℕ → SplitKey
key_of node destination from = record { node = record { 0 = node }; destination = destination; from = from }

-- the weights of the row with exactly that key
abbrev pub row_of : List SplitRow → SplitKey → Option (List ℕ)
row_of rows key = lookup (is_at (split_cmp key)) rows

-- the rows with this row at its place, instead of the one with the same key if there is one
abbrev pub put_in : List SplitRow → SplitKey → List ℕ → List SplitRow
put_in rows key weights = insert_entry split_cmp rows key weights

-- the rows without the one with exactly that key
abbrev pub taken_out : List SplitRow → SplitKey → List SplitRow
taken_out rows key = remove_entry (is_at (split_cmp key)) rows

-- the rows, with what stood at the key put back there
abbrev pub put_back : List SplitRow → SplitKey → Option (List ℕ) → List SplitRow
put_back rows key None = taken_out rows key
put_back rows key (Some weights) = put_in rows key weights

-- whether it would be one row too many
abbrev pub is_over : SplitsData → SplitKey → Bool
is_over d key = is_none (row_of d.rows key) && nat_le d.most_rows (length d.rows)

-- the table with the row, or the first reason to refuse it
abbrev pub with_row : SplitsData → SplitKey → List ℕ → Result SplitsData SplitFault
with_row d key weights =
    if nat_le d.slots key.from then Err BadSlots
    else (if sum weights == 0 then Err ZeroWeight
    else (if is_over d key then Err TooManyRows
    else Ok (with_rows d (put_in d.rows key weights))))

-- whether the row is one of the pair of node and destination
abbrev pub is_of : ℕ → ℕ → SplitRow → Bool
is_of node destination row = (row.0.node.0 == node) && (row.0.destination == destination)

-- the rows of a pair that begin at or before a slot
abbrev pub rows_begun : List SplitRow → ℕ → ℕ → ℕ → List SplitRow
rows_begun rows node destination slot = filter (λ row. is_of node destination row && nat_le row.0.from slot) rows

-- the weights in force at a slot: those of the last row of the pair that begins at or before it
abbrev pub row_in_force : List SplitRow → ℕ → ℕ → ℕ → Option (List ℕ)
row_in_force rows node destination slot = option_map (λ row. row.1) (last_or None (rows_begun rows node destination slot))

-- the key says nothing of the node at the slot: it is one of another node, or begins later
abbrev pub IsSilent : ℕ → ℕ → SplitKey → Type 0
IsSilent node slot key = (key.node.0 ≢ node) ⊎ (slot < key.from)

-- the least first slot: that of the first row of the pair
abbrev pub begins : List SplitRow → ℕ → ℕ → Option ℕ
begins rows node destination = option_map (λ row. row.0.from) (slice_get (filter (is_of node destination) rows) 0)
