use Rattle.ltm_scenario.proofs.Making.{makes}
use Rattle.ltm_scenario.proofs.laws.edits_make.Goals as goal

pub returns : goal.returns
returns c = makes
