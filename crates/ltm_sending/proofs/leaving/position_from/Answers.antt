use Rattle.ltm_curve.specs.Table.{counts_of}
use Rattle.ltm_setting.specs.Setting.{setting_of}
use Rattle.ltm_sending.proofs.Links.{entered_rises}
use Rattle.ltm_sending.proofs.leaving.position_from.Goals as goal

pub last_with-requires-clause-rises : goal.last_with-requires-clause-rises
last_with-requires-clause-rises g c =
    entered_rises (setting_of c.args.scenario.now) (counts_of c.args.curves.now) c.args.link.0 c.args.slot _ _ (c.links_are_ready.ensures _ _ _ _ c.is_setting.ensures.setting c.requires.ready.front c.requires.link) c.requires.ready.shape.same_destinations c.up_of-up.ensures
