use Rattle.std.proofs.Common.{◌≡◌, ◌<◌, ℕ}
use Rattle.ltm_curve.specs.Table.{counts_of, destinations_of}
use Rattle.ltm_check.proofs.start.starts_empty.Given as goal

abbrev pub invariant-loop-group : goal.invariant-loop-group
invariant-loop-group l = (g d : ℕ) → g < l.group → d < destinations_of l.curves → counts_of l.curves g d 0 ≡ 0
