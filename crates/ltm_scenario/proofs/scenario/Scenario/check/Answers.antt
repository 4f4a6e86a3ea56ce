use Rattle.ltm_scenario.proofs.Validity.{valid_is_checked}
use Rattle.ltm_scenario.proofs.scenario.Scenario.check.Goals as goal

pub returns-clause-valid : goal.returns-clause-valid
returns-clause-valid c = valid_is_checked c.args.self.now c.first_broken.result c.first_broken.ensures
