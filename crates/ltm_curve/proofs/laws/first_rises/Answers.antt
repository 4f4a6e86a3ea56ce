use Rattle.ltm_curve.proofs.Firsts.{first_rises_holds}
use Rattle.ltm_curve.proofs.laws.first_rises.Goals as goal

pub returns : goal.returns
returns c = first_rises_holds
