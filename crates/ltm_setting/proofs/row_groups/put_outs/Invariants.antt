use Rattle.std.proofs.Common.{◌≡◌, ◌+◌}
use Rattle.ltm_curve.specs.First.{list_below}
use Rattle.ltm_loading.specs.Pairs.{arms_of}
use Rattle.ltm_loading.specs.NodeGroups.{node_group}
use Rattle.ltm_setting.specs.Setting.{setting_of}
use Rattle.ltm_setting.proofs.row_groups.put_outs.Given as goal

abbrev pub invariant-loop-link : goal.invariant-loop-link
invariant-loop-link l = l.into ≡ list_below (arms_of (setting_of l.scenario) l.fn.node.0 + l.link-index) (node_group (setting_of l.scenario) l.fn.node.0)
