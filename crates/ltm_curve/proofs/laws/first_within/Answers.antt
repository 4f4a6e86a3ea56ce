use Rattle.ltm_curve.proofs.Firsts.{first_within_holds}
use Rattle.ltm_curve.proofs.laws.first_within.Goals as goal

pub returns : goal.returns
returns c = first_within_holds
