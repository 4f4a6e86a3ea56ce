-- What the fields of a `Demand` keep.
use Rattle.std.specs.Prelude.{◌≡◌, ℕ, ◌+◌, ◌≤◌, Bool, List, length, map, All}
use Rattle.std.specs.List.Sorted.{IsStrictlySortedBy}
use Rattle.ltm_demand.specs.declared.row.DemandRow.{DemandRow}
use Rattle.ltm_demand.specs.Rows.{OriginRoom, row_cmp, IsDemandRow}
use Rattle.ltm_demand.specs.Produced.{origin_by_end}
use Rattle.ltm_demand.specs.Productions.{seen, seen_by_end, told, IsReached}
use Rattle.ltm_demand.specs.Origins.{OriginData, origin_at, rows_of}
use Rattle.ltm_units.specs.Bounds.{most_rows}

-- the rows are in the order of their keys, each a row within the horizon, and at most so many, as a case may have
pub record AreDemandRows (slots most : ℕ) (rows : List DemandRow) : Type 0 where
  pub ordered : IsStrictlySortedBy row_cmp rows
  pub each : All (IsDemandRow slots) rows
  pub few : length rows ≤ most
  pub bounded : most ≤ most_rows

-- the room that the origins have
abbrev pub room_in : OriginData → OriginRoom
room_in origin = record { rows = origin.places; destinations = origin.table.destinations; slots = origin.table.slots }

abbrev pub room_of : List OriginData → List OriginRoom
room_of origins = map room_in origins

-- each origin has its own rows, its table reaches to their ends and says what all rows have produced from it, in all and, as it
-- has them, to each destination
pub record IsKept (slots most : ℕ) (tabled : Bool) (count : ℕ) (origins : List OriginData) : Type 0 where
  pub are_rows : AreDemandRows slots most (rows_of origins)
  pub counted : count ≡ length (rows_of origins)
  pub own : (o : ℕ) → All (λ r. r.origin.0 ≡ o) (origin_at origins o).rows
  pub reached : (o : ℕ) → All (λ r. IsReached (origin_at origins o).table (seen tabled r)) (origin_at origins o).rows
  pub each : (o d t : ℕ) → told (origin_at origins o).table (d + 1) t ≡ seen_by_end tabled (rows_of origins) o d t
  pub all : (o t : ℕ) → told (origin_at origins o).table 0 t ≡ origin_by_end (rows_of origins) o t
