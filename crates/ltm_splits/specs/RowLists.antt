-- The rows of a pair, however many they are.
use Rattle.std.specs.Prelude.{List, []}
use Rattle.ltm_splits.specs.Table.{Entry}
use Rattle.ltm_splits.specs.declared.row_list.RowList.{RowList}
use Rattle.ltm_splits.specs.declared.row_list.RowList.TheVariants.{Empty, One, More}

abbrev pub entries_of : RowList → List Entry
entries_of Empty = []
entries_of (One row) = row
entries_of (More rows) = rows.items
