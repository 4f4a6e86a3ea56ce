use Rattle.std.proofs.Common.{ℕ, ◌<◌, ◌≤◌}
use Rattle.ltm_node.specs.Inputs.{weight}
use Rattle.test_load.proofs.solvable.check_weights_of.Given as goal

abbrev pub invariant-loop-out : goal.invariant-loop-out
invariant-loop-out g l = (j : ℕ) → j < l.out → weight l.inputs l.destination j ≤ 4294967295
