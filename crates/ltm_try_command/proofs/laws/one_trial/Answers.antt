use Rattle.ltm_try_command.proofs.OneTrial.{one_trial_holds}
use Rattle.ltm_try_command.proofs.laws.one_trial.Goals as goal

pub returns : goal.returns
returns c = one_trial_holds c.one_loading.ensures c.scenarios_are_settings.ensures
