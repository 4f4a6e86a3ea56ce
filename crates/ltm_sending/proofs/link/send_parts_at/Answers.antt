use Rattle.std.proofs.Common.{◌<◌, arith}
use Rattle.ltm_curve.specs.Table.{counts_of, destinations_of}
use Rattle.ltm_setting.specs.Setting.{setting_of}
use Rattle.ltm_sending.proofs.Links.{rest_is, rest_fits, sends_rest, are_first}
use Rattle.ltm_sending.proofs.link.send_parts_at.Goals as goal

pub first_less_from-requires-clause-units : goal.first_less_from-requires-clause-units
first_less_from-requires-clause-units c =
    are_first (setting_of c.args.scenario.now) c.args.curves.now c.args.link.0 c.args.slot c.up_of.result c.args.waiting.goal c.args.waiting.by c.args.waiting.left c.args.waiting.at c.min.result
    c.requires.ready c.requires.link (c.links_are_ready.ensures _ _ _ _ c.is_setting.ensures.setting c.requires.ready.front c.requires.link) c.requires.waiting c.up_of.ensures c.requires.position c.min.ensures

pub limit_all-requires-clause-parts : goal.limit_all-requires-clause-parts
limit_all-requires-clause-parts c d x =
    let inside : d < destinations_of c.args.curves.now = omega (arith, c.requires.ready.shape.same_destinations) in
    rest_fits (setting_of c.args.scenario.now) (counts_of c.args.curves.now) c.args.link.0 c.args.slot (destinations_of c.args.curves.now) _ _ _ d _ c.requires.waiting
    (rest_is (counts_of c.args.curves.now) c.args.link.0 c.args.slot (destinations_of c.args.curves.now) c.up_of.result c.down_of.result _ _ d _ c.up_of.ensures c.down_of.ensures (c.first_less_from.ensures d inside))
    inside

pub returns : goal.returns
returns c d x =
    let inside : d < destinations_of c.args.curves.now = omega (arith, c.requires.ready.shape.same_destinations) in
    sends_rest (setting_of c.args.scenario.now) (counts_of c.args.curves.now) c.args.link.0 c.args.slot (destinations_of c.args.curves.now) _ _ _ c.exit_limit-limit.result d _ _ c.requires.waiting c.exit_limit-limit.ensures
    (rest_is (counts_of c.args.curves.now) c.args.link.0 c.args.slot (destinations_of c.args.curves.now) c.up_of.result c.down_of.result _ _ d _ c.up_of.ensures c.down_of.ensures (c.first_less_from.ensures d inside))
    (c.limit_all.ensures d (omega arith)) inside
