use Rattle.std.proofs.Common.{ℕ, ◌<◌, ◌≤◌, ◌^◌}
use Rattle.ltm_node.specs.Inputs.{left}
use Rattle.test_load.proofs.solvable.check_left_of.Given as goal

abbrev pub invariant-loop-destination : goal.invariant-loop-destination
invariant-loop-destination g l = (d : ℕ) → d < l.destination → left l.inputs l.arm d ≤ 2 ^ 48
