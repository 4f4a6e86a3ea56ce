use Rattle.std.proofs.Common.{◌≡◌, ◌<◌, ℕ}
use Rattle.ltm_curve.specs.Table.{counts_of, destinations_of}
use Rattle.ltm_check.proofs.start.stays_empty.Given as goal

abbrev pub invariant-loop-boundary : goal.invariant-loop-boundary
invariant-loop-boundary l = (d k : ℕ) → d < destinations_of l.curves → k < l.boundary → counts_of l.curves l.group d k ≡ 0
