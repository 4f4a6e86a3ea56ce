use Rattle.ltm_thin.proofs.Moving.{thin_step_holds}
use Rattle.ltm_thin.proofs.thin_step.Goals as goal

pub returns : goal.returns
returns c = thin_step_holds
