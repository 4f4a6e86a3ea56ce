use Rattle.std.proofs.Common.{◌≡◌}
use Rattle.ltm_curve.specs.First.{list_below}
use Rattle.ltm_loading.specs.NodeGroups.{node_group}
use Rattle.ltm_setting.specs.Setting.{setting_of}
use Rattle.ltm_setting.proofs.row_groups.put_arms.Given as goal

abbrev pub invariant-loop-link : goal.invariant-loop-link
invariant-loop-link l = l.into ≡ list_below l.link-index (node_group (setting_of l.scenario) l.node.0)
