use Rattle.ltm_session.proofs.OneOutput.{one_output_holds}
use Rattle.ltm_session.proofs.laws.one_output.Goals as goal

pub returns : goal.returns
returns c = one_output_holds (record { one = c.one_loading.ensures; settings = c.scenarios_are_settings.ensures })
