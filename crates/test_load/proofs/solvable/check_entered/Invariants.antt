use Rattle.std.proofs.Common.{ℕ, ◌<◌, ◌≤◌, ◌^◌}
use Rattle.ltm_node.specs.Inputs.{entered}
use Rattle.test_load.proofs.solvable.check_entered.Given as goal

abbrev pub invariant-loop-out : goal.invariant-loop-out
invariant-loop-out g l = (j d : ℕ) → j < l.out → d < l.inputs.shape.destinations → entered l.inputs j d ≤ 2 ^ 48
