use Rattle.ltm_limits.proofs.Stays.{limits_set}
use Rattle.ltm_limits.proofs.laws.limits_are_set.Goals as goal

pub returns : goal.returns
returns c = limits_set
