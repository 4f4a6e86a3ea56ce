-- What rows have produced never falls, and is at most their units.
use Rattle.std.proofs.Common.{ℕ, ◌≤◌, List}
use Rattle.std.proofs.lemmas.List.Sums.{sum_by-le-sum_by}
use Rattle.ltm_demand.specs.declared.row.DemandRow.{DemandRow}
use Rattle.ltm_demand.specs.Produced.{by_end, part, total}
use Rattle.ltm_demand.specs.Kept.{AreDemandRows}
use Rattle.ltm_units.specs.Bounds.{most_produced}
use Rattle.ltm_demand.proofs.Parts.{part_rises}
use Rattle.ltm_demand.proofs.State.{by_end_le, total_le}

pub rises : (rows : List DemandRow) (o d s t : ℕ) → s ≤ t → by_end rows o d s ≤ by_end rows o d t
rises rows o d s t later = sum_by-le-sum_by (part o d s) (part o d t) rows (part_rises o d s t later)

pub within : (rows : List DemandRow) (o d t : ℕ) → by_end rows o d t ≤ total rows
within = by_end_le

pub small : (slots most : ℕ) (rows : List DemandRow) → AreDemandRows slots most rows → total rows ≤ most_produced
small = total_le
