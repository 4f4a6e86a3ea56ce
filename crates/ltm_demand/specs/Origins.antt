-- The demand of each origin, by node number, and the rows of all of them.
use Rattle.std.specs.Prelude.{◌≡◌, ℕ, ◌≤◌, List, [], slice_index_or}
use Rattle.std.specs.List.{flat_map}
use Rattle.ltm_demand.specs.declared.row.DemandRow.{DemandRow}
use Rattle.ltm_demand.specs.Productions.{ProductionData, no_table, told}

-- the rows of an origin, how many of them find a place without memory, and the table of what they have produced
pub record OriginData : Type 0 where
  pub rows : List DemandRow
  pub places : ℕ
  pub table : ProductionData

abbrev pub no_origin : OriginData
no_origin = record { rows = []; places = 0; table = no_table }

abbrev pub origin_at : List OriginData → ℕ → OriginData
origin_at origins origin = slice_index_or origins origin no_origin

-- the rows of all origins, those of each behind those of the origins before it
abbrev pub rows_of : List OriginData → List DemandRow
rows_of origins = flat_map (λ origin. origin.rows) origins

-- the same rows, and a table that says the same and reaches as far
pub record IsAlike (old new : OriginData) : Type 0 where
  pub rows : new.rows ≡ old.rows
  pub told : (column t : ℕ) → told new.table column t ≡ told old.table column t
  pub destinations : old.table.destinations ≤ new.table.destinations
  pub slots : old.table.slots ≤ new.table.slots
