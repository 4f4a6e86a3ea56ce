use Rattle.std.proofs.Common.{ℕ, ◌+◌, subst}
use Rattle.ltm_curve.specs.Table.{counts_of}
use Rattle.ltm_setting.specs.Setting.{setting_of}
use Rattle.ltm_flows.specs.Applying.{SetsSink}
use Rattle.ltm_flows.proofs.Writing.{groups_apply}
use Rattle.ltm_flows.proofs.applying.apply.Goals as goal

pub returns-clause-applies : goal.returns-clause-applies
returns-clause-applies c =
    let sink = subst (λ (z : ℕ). SetsSink (setting_of c.args.scenario.now) c.args.pair.node.0 (c.args.pair.slot + 1) z (counts_of c.write_groups.new.curves) (counts_of c.write_sink.new.curves)) c.arrived.ensures c.write_sink.ensures.sets in
    groups_apply _ c.args.pair.node.0 _ c.args.outputs.now _ _ _ c.groups_by_row.ensures c.groups_are_set.ensures c.is_setting.ensures.setting c.requires.node c.requires.outputs c.shape-shape.ensures.width c.write_groups.ensures.sets sink
