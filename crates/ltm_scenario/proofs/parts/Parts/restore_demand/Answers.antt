use Rattle.ltm_scenario.proofs.Undoing.{demand_restored}
use Rattle.ltm_scenario.proofs.parts.Parts.restore_demand.Goals as goal

pub returns-clause-scenario : goal.returns-clause-scenario
returns-clause-scenario c = (demand_restored c.args.self.now c.restore.new.self c.args.row c.requires.parts c.requires.can.scenario c.restore.ensures.done c.restore.ensures.tabled).0

pub returns-clause-parts : goal.returns-clause-parts
returns-clause-parts c = (demand_restored c.args.self.now c.restore.new.self c.args.row c.requires.parts c.requires.can.scenario c.restore.ensures.done c.restore.ensures.tabled).1
