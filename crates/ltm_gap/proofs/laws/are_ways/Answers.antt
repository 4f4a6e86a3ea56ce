use Rattle.ltm_setting.specs.Setting.{setting_of}
use Rattle.ltm_gap.proofs.Lawful.{read_are_ways}
use Rattle.ltm_gap.proofs.laws.are_ways.Goals as goal

pub returns : goal.returns
returns c = (read_are_ways (setting_of c.args.scenario.now) c.args.loading.now c.is_setting.ensures.setting c.requires c.curves-curves.ensures.groups c.curves-curves.ensures.rises).ways
