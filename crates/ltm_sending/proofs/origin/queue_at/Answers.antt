use Rattle.ltm_curve.specs.Table.{counts_of}
use Rattle.ltm_setting.specs.Setting.{setting_of}
use Rattle.ltm_sending.proofs.Origins.{found}
use Rattle.ltm_sending.proofs.origin.queue_at.Goals as goal

pub returns : goal.returns
returns g c =
    found (setting_of c.args.scenario.now) (counts_of c.args.curves.now) c.args.node.0 c.args.slot _ c.dep_of.result _ _ c.origin_capacity.result _
    (c.origins_are_ready.ensures _ _ _ _ c.requires.setting c.requires.ready.front c.requires.ready.now c.requires.node c.requires.some_out)
    c.requires.ready.shape.same_destinations c.dep_of.ensures.group c.total-all.ensures c.total-left.ensures.total c.origin_capacity.ensures.value c.min-goal.ensures
