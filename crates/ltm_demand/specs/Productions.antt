-- A table of what an origin has produced by the end of each slot. A slot's numbers lie side by side: that of all
-- destinations in column 0, that of a destination in the column behind it.
use Rattle.std.specs.Prelude.{◌≡◌, ◌⊎◌, ℕ, ◌+◌, ◌-◌, ◌*◌, ◌<◌, ◌≤◌, ◌^◌, Bool, min, if◌then◌else◌, nat_le, List, [], slice_index, sum_by}
use Rattle.ltm_demand.specs.declared.row.DemandRow.{DemandRow}
use Rattle.ltm_demand.specs.Rows.{table_destination, with_amount}
use Rattle.ltm_demand.specs.Produced.{part, origin_part, produced}

-- a row as the table of its origin has it: where there is a column for each destination, as it is, and else as one to
-- destination 0, so that the only column behind that of all destinations is for all of them too
abbrev pub seen : Bool → DemandRow → DemandRow
seen tabled row = record row { destination = table_destination tabled row }

-- what the rows have produced from the origin to the destination by the end of a slot, as the table of the origin has them
abbrev pub seen_by_end : Bool → List DemandRow → ℕ → ℕ → ℕ → ℕ
seen_by_end tabled rows origin destination slot = sum_by (λ row. part origin destination slot (seen tabled row)) rows

pub record ProductionData : Type 0 where
  pub destinations : ℕ
  pub slots : ℕ
  pub units : List ℕ

abbrev pub no_table : ProductionData
no_table = record { destinations = 0; slots = 0; units = [] }

-- what a table says of a column and a slot: a slot past its last says what the last does, a column that it has not 0
unfoldable pub told : ProductionData → ℕ → ℕ → ℕ
told t column slot = if nat_le column t.destinations then slice_index t.units (min slot (t.slots - 1) * (t.destinations + 1) + column) else 0

-- the column is that of all destinations or a certain one of a destination
abbrev pub IsOneOf : ℕ → ℕ → Type 0
IsOneOf own column = (column ≡ 0) ⊎ (column ≡ own)

-- the columns of a row have what stood at its key, and room for another amount
pub record IsRoomy (t : ProductionData) (row : DemandRow) (was : ℕ) : Type 0 where
  pub has : (column slot : ℕ) → IsOneOf (row.destination + 1) column → produced row.from row.to was slot ≤ told t column slot
  pub room : (column slot : ℕ) → IsOneOf (row.destination + 1) column → told t column slot < 2 ^ 63

-- the table has a place for a row
pub record IsReached (t : ProductionData) (row : DemandRow) : Type 0 where
  pub destination : row.destination < t.destinations
  pub end : row.to ≤ t.slots

-- the table of the row's origin says what it said, with the row in place of the same row with another amount
pub record IsShifted (old new : ProductionData) (row : DemandRow) (was : ℕ) : Type 0 where
  pub each : (d t : ℕ) → told new (d + 1) t + part row.origin.0 d t (with_amount row was) ≡ told old (d + 1) t + part row.origin.0 d t row
  pub all : (t : ℕ) → told new 0 t + origin_part row.origin.0 t (with_amount row was) ≡ told old 0 t + origin_part row.origin.0 t row
  pub destinations : new.destinations ≡ old.destinations
  pub slots : new.slots ≡ old.slots
