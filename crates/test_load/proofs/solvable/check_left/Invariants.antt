use Rattle.std.proofs.Common.{ℕ, ◌<◌, ◌≤◌, ◌^◌}
use Rattle.ltm_node.specs.Inputs.{left}
use Rattle.test_load.proofs.solvable.check_left.Given as goal

abbrev pub invariant-loop-arm : goal.invariant-loop-arm
invariant-loop-arm g l = (i d : ℕ) → i < l.arm → d < l.inputs.shape.destinations → left l.inputs i d ≤ 2 ^ 48
