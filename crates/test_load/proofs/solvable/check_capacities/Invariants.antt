use Rattle.std.proofs.Common.{ℕ, ◌<◌, ◌≤◌}
use Rattle.ltm_node.specs.Inputs.{capacity}
use Rattle.ltm_node.specs.Demands.{sent}
use Rattle.test_load.proofs.solvable.check_capacities.Given as goal

abbrev pub invariant-loop-arm : goal.invariant-loop-arm
invariant-loop-arm g l = record {
  some : (i : ℕ) → i < l.arm → 1 ≤ capacity l.inputs i;
  most : (i : ℕ) → i < l.arm → capacity l.inputs i ≤ 32000;
  within : (i : ℕ) → i < l.arm → sent l.inputs i ≤ capacity l.inputs i;
}
