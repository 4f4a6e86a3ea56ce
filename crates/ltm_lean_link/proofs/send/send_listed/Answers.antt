use Rattle.std.proofs.Common.{length, arith}
use Rattle.ltm_setting.specs.Setting.{setting_of}
use Rattle.ltm_standing.specs.Listed.{IsAsked}
use Rattle.ltm_lean_link.proofs.Scattered.{sent_at}
use Rattle.ltm_lean_link.proofs.send.send_listed.Goals as goal

pub returns-clause-sends : goal.returns-clause-sends
returns-clause-sends c = λ counts ds us at order placed long.
    let s = setting_of c.args.scenario.now in
    let asked : IsAsked (setting_of c.args.scenario.now) counts c.args.link.0 c.args.slot c.may_leave-may.result.goal c.may_leave-may.result.gone c.exit_limit-limit.result = record {
      may_leave = c.may_leave-may.ensures.goal counts at.up at.down;
      have_left = c.may_leave-may.ensures.gone counts at.down;
      at_most = c.exit_limit-limit.ensures;
    } in
    sent_at s counts c.args.link.0 c.args.slot (length c.args.into.now) ds us c.args.places.now c.send.new.into c.scatter.new.into at.listed c.requires.slot order placed long
    (omega (arith, placed.long, c.requires.places, c.requires.room, c.send.auto.into)) (c.send.ensures.sends s counts c.args.link.0 c.args.slot ds at.listed c.requires.slot asked at.stands)
    c.scatter.ensures.here c.scatter.ensures.others

pub returns-clause-stands : goal.returns-clause-stands
returns-clause-stands c = λ counts ds at.
    c.send.ensures.stands (setting_of c.args.scenario.now) counts c.args.link.0 c.args.slot ds at.listed c.requires.slot
    (record {
      may_leave = c.may_leave-may.ensures.goal counts at.up at.down;
      have_left = c.may_leave-may.ensures.gone counts at.down;
      at_most = c.exit_limit-limit.ensures;
    }) at.stands
