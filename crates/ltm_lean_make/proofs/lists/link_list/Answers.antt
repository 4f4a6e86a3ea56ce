use Rattle.ltm_setting.specs.Setting.{setting_of}
use Rattle.ltm_lean_make.proofs.First.{rising, few}
use Rattle.ltm_lean_make.proofs.lists.link_list.Goals as goal

pub returns-clause-rise : goal.returns-clause-rise
returns-clause-rise c = rising (setting_of c.args.scenario.now) _ _ c.on.ensures (c.requires.tables.link_order c.args.link.0 c.requires.link)

pub returns-clause-few : goal.returns-clause-few
returns-clause-few c = few (setting_of c.args.scenario.now) _ _ c.destination_count-destinations.result c.destination_count-destinations.ensures.value c.destination_count-destinations.ensures.few c.on.ensures (c.requires.tables.link_order c.args.link.0 c.requires.link)
