use Rattle.ltm_curve.specs.Table.{counts_of}
use Rattle.ltm_loading.specs.NodeGroups.{node_group}
use Rattle.ltm_loading.specs.Shaped.{IsShaped}
use Rattle.ltm_setting.specs.Setting.{setting_of}
use Rattle.ltm_flows.specs.Applying.{in_row, SetsGroups}
use Rattle.ltm_flows.proofs.applying.write_groups.Given as goal

abbrev pub invariant-loop-place : goal.invariant-loop-place
invariant-loop-place l = record {
  shape : IsShaped (setting_of l.scenario) l.curves;
  sets : SetsGroups (setting_of l.scenario) l.boundary l.place (node_group (setting_of l.scenario) l.fn.node.0) (in_row (setting_of l.scenario) l.outputs.row) (counts_of l.fn.curves) (counts_of l.curves);
}
