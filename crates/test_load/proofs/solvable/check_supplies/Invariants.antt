use Rattle.std.proofs.Common.{ℕ, ◌<◌, ◌≤◌}
use Rattle.ltm_node.specs.Inputs.{supply}
use Rattle.test_load.proofs.solvable.check_supplies.Given as goal

abbrev pub invariant-loop-out : goal.invariant-loop-out
invariant-loop-out g l = (j : ℕ) → j < l.out → supply l.inputs j ≤ 32000
