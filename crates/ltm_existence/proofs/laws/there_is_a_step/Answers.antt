use Rattle.ltm_existence.proofs.Steps.{there_is_a_step_holds}
use Rattle.ltm_existence.proofs.laws.there_is_a_step.Goals as goal

pub returns : goal.returns
returns c = there_is_a_step_holds
