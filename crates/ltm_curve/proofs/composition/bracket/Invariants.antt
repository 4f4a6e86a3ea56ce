use Rattle.std.proofs.Common.{ℕ, ◌<◌, ◌≤◌}
use Rattle.ltm_curve.specs.Counts.{total}
use Rattle.ltm_curve.proofs.composition.bracket.Given as goal

abbrev pub invariant-loop-low : goal.invariant-loop-low
invariant-loop-low g l =
    (l.low ≤ l.high) × (l.high ≤ l.last) × ((j : ℕ) → l.high < j → j ≤ l.last → l.n < total (g.R.Rows.width l.rows) (g.R.Rows.rows l.rows) j) × (0 < l.span)

abbrev pub decreases-loop-low : goal.decreases-loop-low
decreases-loop-low g l = l.low
