use Rattle.std.proofs.Common.{arith}
use Rattle.ltm_setting.specs.Setting.{setting_of}
use Rattle.ltm_gap.proofs.Cuts.{some_arrive}
use Rattle.ltm_gap.proofs.cutting.cut_within.Goals as goal

pub returns-clause-cut : goal.returns-clause-cut
returns-clause-cut c =
    some_arrive (setting_of c.args.scenario.now) c.args.loading.now c.args.made.origin.0 c.args.made.slot c.args.node.0 c.args.made.before c.loop-low.last c.loop-low.low c.loop-low.high c.arrive_in_order.ensures
    c.is_setting.ensures.setting c.requires.before (omega arith) c.loop-low.invariant.between
