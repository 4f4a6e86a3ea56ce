use Rattle.ltm_curve.proofs.Firsts.{first_stays_holds}
use Rattle.ltm_curve.proofs.laws.first_stays.Goals as goal

pub returns : goal.returns
returns c = first_stays_holds
