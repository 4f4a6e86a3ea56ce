-- What rows of demand have produced by the end of a slot.
use Rattle.std.specs.Prelude.{ℕ, ◌≢◌, ◌<◌, ◌⊎◌, ◌+◌, ◌-◌, ◌*◌, ◌/◌, Bool, ◌==◌, ◌&&◌, if◌then◌else◌, nat_le, nat_lt, List, sum_by}
use Rattle.std.specs.List.{list_any}
use Rattle.ltm_demand.specs.declared.row.DemandRow.{DemandRow}

-- what amount units over the slots from .. to - 1 have produced by the end of a slot: evenly, floored
unfoldable pub produced : ℕ → ℕ → ℕ → ℕ → ℕ
produced from to amount slot = if nat_lt slot from then 0 else if nat_le to (slot + 1) then amount else amount * (slot + 1 - from) / (to - from)

-- the row is one from the origin to the destination
abbrev pub joins : ℕ → ℕ → DemandRow → Bool
joins origin destination row = (row.origin.0 == origin) && (row.destination == destination)

-- what a row has produced from the origin to the destination by the end of a slot
unfoldable pub part : ℕ → ℕ → ℕ → DemandRow → ℕ
part origin destination slot row = if joins origin destination row then produced row.from row.to row.amount.0 slot else 0

-- what the rows have produced from the origin to the destination by the end of a slot
abbrev pub by_end : List DemandRow → ℕ → ℕ → ℕ → ℕ
by_end rows origin destination slot = sum_by (part origin destination slot) rows

-- what a row has produced to the destination, from whatever origin, by the end of a slot
unfoldable pub part_to : ℕ → ℕ → DemandRow → ℕ
part_to destination slot row = if row.destination == destination then produced row.from row.to row.amount.0 slot else 0

-- what the rows have produced to the destination, from whatever origin, by the end of a slot
abbrev pub by_end_to : List DemandRow → ℕ → ℕ → ℕ
by_end_to rows destination slot = sum_by (part_to destination slot) rows

-- what a row has produced from the origin, whatever its destination, by the end of a slot
unfoldable pub origin_part : ℕ → ℕ → DemandRow → ℕ
origin_part origin slot row = if row.origin.0 == origin then produced row.from row.to row.amount.0 slot else 0

-- what the rows have produced from the origin to all destinations by the end of a slot
abbrev pub origin_by_end : List DemandRow → ℕ → ℕ → ℕ
origin_by_end rows origin slot = sum_by (origin_part origin slot) rows

-- the row produces nothing from the origin by the end of the slot: it is one of another origin, or begins later
abbrev pub IsSilent : ℕ → ℕ → DemandRow → Type 0
IsSilent origin slot row = (row.origin.0 ≢ origin) ⊎ (slot < row.from)

-- the units of all rows
abbrev pub total : List DemandRow → ℕ
total rows = sum_by (λ r. r.amount.0) rows

-- some row stands from the origin to the destination
abbrev pub has : List DemandRow → ℕ → ℕ → Bool
has rows origin destination = list_any (joins origin destination) rows
