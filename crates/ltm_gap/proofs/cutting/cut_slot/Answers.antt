use Rattle.ltm_setting.specs.Setting.{setting_of}
use Rattle.ltm_gap.proofs.Cuts.{all_arrive, none_arrive}
use Rattle.ltm_gap.proofs.cutting.cut_slot.Goals as goal

pub returns-then-is_some-clause-cut : goal.returns-then-is_some-clause-cut
returns-then-is_some-clause-cut c =
    all_arrive (setting_of c.args.scenario.now) c.args.loading.now c.args.made.origin.0 c.args.made.slot c.args.node.0 c.args.made.before c.args.made.after c.args.ends.1 c.arrive_in_order.ensures c.slots_meet.ensures
    c.is_setting.ensures.setting c.requires.origin c.requires.slot c.requires.before c.requires.after c.requires.some c.if-is_some.ensures c.requires.last

pub returns-in-None-clause-cut : goal.returns-in-None-clause-cut
returns-in-None-clause-cut c =
    none_arrive (setting_of c.args.scenario.now) c.args.loading.now c.args.made.origin.0 c.args.made.slot c.args.node.0 c.args.made.before c.args.ends.0 c.arrive_in_order.ensures c.is_setting.ensures.setting
    c.requires.before c.in-None.is c.requires.first
