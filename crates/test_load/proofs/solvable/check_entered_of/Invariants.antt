use Rattle.std.proofs.Common.{ℕ, ◌<◌, ◌≤◌, ◌^◌}
use Rattle.ltm_node.specs.Inputs.{entered}
use Rattle.test_load.proofs.solvable.check_entered_of.Given as goal

abbrev pub invariant-loop-destination : goal.invariant-loop-destination
invariant-loop-destination g l = (d : ℕ) → d < l.destination → entered l.inputs l.out d ≤ 2 ^ 48
