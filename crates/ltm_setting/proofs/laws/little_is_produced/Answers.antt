use Rattle.ltm_setting.proofs.Producing.{all_little, one_little}
use Rattle.ltm_setting.proofs.laws.little_is_produced.Goals as goal

pub returns-clause-all : goal.returns-clause-all
returns-clause-all c = all_little c.args.scenario.now c.setup-setup.ensures.scenario

pub returns-clause-one : goal.returns-clause-one
returns-clause-one c = one_little c.args.scenario.now c.setup-setup.ensures.scenario
