use Rattle.std.proofs.Common.{ℕ, ◌<◌, ◌≤◌, ◌-◌}
use Rattle.ltm_curve.specs.TotalCurves.{total_slots, total_at}
use Rattle.ltm_times.proofs.boundaries.first_boundary.Given as goal

abbrev pub invariant-loop-low : goal.invariant-loop-low
invariant-loop-low l = record {
  order : l.low ≤ l.high;
  within : l.high ≤ total_slots l.curves;
  reached : l.count ≤ total_at l.curves l.group l.high;
  before : (k : ℕ) → k < l.low → total_at l.curves l.group k < l.count;
}

abbrev pub decreases-loop-low : goal.decreases-loop-low
decreases-loop-low l = l.high - l.low
