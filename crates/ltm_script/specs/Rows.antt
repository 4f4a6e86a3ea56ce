-- The split rows that an array is.
use Rattle.std.specs.Prelude.{List, [], codes, Option, Some, None}
use Rattle.serde_json.specs.Data.{Data, Items, no_items, item}
use Rattle.serde_json.specs.Find.{get, as_array}
use Rattle.ltm_scenario.specs.Weights.{NamedRow}
use Rattle.ltm_script.specs.Members.{◌>>=◌, whole_of}
use Rattle.ltm_script.specs.Weights.{before, weights_from}

-- a slot, and weights
abbrev pub pair_of : Items → Option NamedRow
pair_of no_items = None
pair_of (item slot no_items) = None
pair_of (item slot (item weights no_items)) = whole_of slot >>= λ from. weights_from weights >>= λ ws. Some (from, ws)
pair_of (item slot (item weights (item d ds))) = None

abbrev pub row_of : Data → Option NamedRow
row_of d = as_array d >>= pair_of

-- each item is a row
abbrev pub rows_of : Items → Option (List NamedRow)
rows_of no_items = Some []
rows_of (item d ds) = before (row_of d) (rows_of ds)

-- one row or more
abbrev pub some_rows : Items → Option (List NamedRow)
some_rows no_items = None
some_rows (item d ds) = rows_of (item d ds)

abbrev pub rows_in : Data → Option (List NamedRow)
rows_in d = get (codes "rows") d >>= as_array >>= some_rows
