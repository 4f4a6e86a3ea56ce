-- All rows of a pair of node and destination at once.
use Rattle.std.specs.Prelude.{ℕ, ◌++◌, nat_lt, if◌then◌else◌, List, length, map, filter, Result, Ok, Err}
use Rattle.std.specs.declared.cmp.Ordering.{Ordering}
use Rattle.std.specs.Ordering.{nat_cmp, ordering_then, is_lt, is_gt}
use Rattle.ltm_splits.specs.declared.keys.SplitFault.{SplitFault}
use Rattle.ltm_splits.specs.declared.keys.SplitFault.TheVariants.{TooManyRows}
use Rattle.ltm_splits.specs.Rows.{SplitRow, SplitsData, is_of, with_rows}
use Rattle.ltm_splits.specs.Table.{Entry, rows_of_pair}

-- where a row stands to those of the pair, by node, then by destination
abbrev pub pair_cmp : ℕ → ℕ → SplitRow → Ordering
pair_cmp node destination row = ordering_then (nat_cmp row.0.node.0 node) (nat_cmp row.0.destination destination)

-- what a pair has: first slots, each with the weights from then on
abbrev pub entries_of_pair : List SplitRow → ℕ → ℕ → List Entry
entries_of_pair rows node destination = map (λ row. (row.0.from, row.1)) (filter (is_of node destination) rows)

-- the rows with these of the pair, in place of all that it had
unfoldable pub replaced : List SplitRow → ℕ → ℕ → List Entry → List SplitRow
replaced rows node destination entries =
    filter (λ row. is_lt (pair_cmp node destination row)) rows
    ++ (rows_of_pair node destination entries ++ filter (λ row. is_gt (pair_cmp node destination row)) rows)

-- the table with these rows of the pair, or that they are too many
abbrev pub with_pair : SplitsData → ℕ → ℕ → List Entry → Result SplitsData SplitFault
with_pair d node destination entries =
    if nat_lt d.most_rows (length (replaced d.rows node destination entries)) then Err TooManyRows
    else Ok (with_rows d (replaced d.rows node destination entries))
