-- The short list of a pair: first slots that rise, each with the weights from then on.
use Rattle.std.specs.Prelude.{◌≡◌, ℕ, ◌<◌, ◌≤◌, List, [], length, slice_index_or, Option, None, nat_le, filter}
use Rattle.std.specs.Option.{option_map}
use Rattle.std.specs.List.{last_or}
use Rattle.ltm_splits.specs.Table.{Entry}

-- the first slot of the entry at place i
abbrev pub start_at : List Entry → ℕ → ℕ
start_at es i = let entry = slice_index_or es i (0, []) in entry.0

-- the first slots rise, so none comes twice
abbrev pub IsRising : List Entry → Type 0
IsRising es = (i j : ℕ) → i < j → j < length es → start_at es i < start_at es j

-- the entry at place i begins at the slot
pub record IsAt (es : List Entry) (from i : ℕ) : Type 0 where
  pub in_range : i < length es
  pub begins_there : start_at es i ≡ from

-- an entry that begins at the slot would go to place i
pub record IsGap (es : List Entry) (from i : ℕ) : Type 0 where
  pub in_range : i ≤ length es
  pub earlier_before : (j : ℕ) → j < i → start_at es j < from
  pub later_after : (j : ℕ) → i ≤ j → j < length es → from < start_at es j

-- the first i entries are those that begin at or before the slot
pub record IsCount (es : List Entry) (slot i : ℕ) : Type 0 where
  pub in_range : i ≤ length es
  pub begun_before : (j : ℕ) → j < i → start_at es j ≤ slot
  pub later_after : (j : ℕ) → i ≤ j → j < length es → slot < start_at es j

-- the weights of the last entry that begins at or before the slot
abbrev pub entry_in_force : List Entry → ℕ → Option (List ℕ)
entry_in_force es slot = option_map (λ e. e.1) (last_or None (filter (λ e. nat_le e.0 slot) es))
