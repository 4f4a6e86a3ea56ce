use Rattle.ltm_limits.proofs.Stays.{limits_longer}
use Rattle.ltm_limits.proofs.laws.limits_are_lengthened.Goals as goal

pub returns : goal.returns
returns c = limits_longer
