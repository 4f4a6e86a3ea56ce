use Rattle.std.proofs.Common.{ℕ, ◌<◌, ◌≤◌}
use Rattle.ltm_node.specs.Inputs.{weight}
use Rattle.test_load.proofs.solvable.check_weights.Given as goal

abbrev pub invariant-loop-destination : goal.invariant-loop-destination
invariant-loop-destination g l = (d j : ℕ) → d < l.destination → j < l.inputs.shape.outs → weight l.inputs d j ≤ 4294967295
