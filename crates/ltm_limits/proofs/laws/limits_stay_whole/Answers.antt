use Rattle.ltm_limits.proofs.Stays.{limits_whole}
use Rattle.ltm_limits.proofs.laws.limits_stay_whole.Goals as goal

pub returns : goal.returns
returns c = limits_whole
