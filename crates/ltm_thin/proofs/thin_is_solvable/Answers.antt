use Rattle.ltm_thin.proofs.Moving.{thin_is_solvable_holds}
use Rattle.ltm_thin.proofs.thin_is_solvable.Goals as goal

pub returns : goal.returns
returns c = thin_is_solvable_holds
