use Rattle.std.proofs.Common.{ℕ, ◌<◌, ◌≤◌, ◌-◌}
use Rattle.ltm_curve.specs.Counts.{total}
use Rattle.ltm_curve.proofs.composition.halve.Given as goal

abbrev pub invariant-loop-low : goal.invariant-loop-low
invariant-loop-low g l =
    (l.low ≤ l.high) × (l.high ≤ l.to) × ((j : ℕ) → l.high < j → j ≤ l.to → l.n < total (g.R.Rows.width l.rows) (g.R.Rows.rows l.rows) j) × (total (g.R.Rows.width l.rows) (g.R.Rows.rows l.rows) l.low ≤ l.n)

abbrev pub decreases-loop-low : goal.decreases-loop-low
decreases-loop-low g l = l.high - l.low
