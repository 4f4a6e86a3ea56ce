use Rattle.ltm_curve.proofs.Firsts.{first_sums_holds}
use Rattle.ltm_curve.proofs.laws.first_sums.Goals as goal

pub returns : goal.returns
returns c = first_sums_holds
