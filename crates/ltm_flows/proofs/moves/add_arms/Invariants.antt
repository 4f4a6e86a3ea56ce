use Rattle.ltm_curve.specs.Table.{counts_of}
use Rattle.ltm_node.specs.Outputs.{left_after}
use Rattle.ltm_loading.specs.Pairs.{arm_group}
use Rattle.ltm_setting.specs.Setting.{setting_of}
use Rattle.ltm_flows.specs.Applying.{with_moves, SetsGroups}
use Rattle.ltm_loading.specs.Shaped.{IsShaped}
use Rattle.ltm_flows.proofs.moves.add_arms.Given as goal

abbrev pub invariant-loop-arm : goal.invariant-loop-arm
invariant-loop-arm l = record {
  shape : IsShaped (setting_of l.scenario) l.curves;
  sets : SetsGroups (setting_of l.scenario) l.boundary l.arm (arm_group (setting_of l.scenario) l.node.0)
      (with_moves (counts_of l.fn.curves) l.boundary (arm_group (setting_of l.scenario) l.node.0) (left_after l.moves)) (counts_of l.fn.curves) (counts_of l.curves);
}
