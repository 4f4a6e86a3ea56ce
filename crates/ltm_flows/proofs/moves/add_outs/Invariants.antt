use Rattle.ltm_curve.specs.Table.{counts_of}
use Rattle.ltm_node.specs.Outputs.{entered_after}
use Rattle.ltm_setting.specs.Setting.{setting_of}
use Rattle.ltm_flows.specs.Applying.{out_group, with_moves, SetsGroups}
use Rattle.ltm_loading.specs.Shaped.{IsShaped}
use Rattle.ltm_flows.proofs.moves.add_outs.Given as goal

abbrev pub invariant-loop-out : goal.invariant-loop-out
invariant-loop-out l = record {
  shape : IsShaped (setting_of l.scenario) l.curves;
  sets : SetsGroups (setting_of l.scenario) l.boundary l.out (out_group (setting_of l.scenario) l.fn.node.0)
      (with_moves (counts_of l.fn.curves) l.boundary (out_group (setting_of l.scenario) l.fn.node.0) (entered_after l.moves)) (counts_of l.fn.curves) (counts_of l.curves);
}
