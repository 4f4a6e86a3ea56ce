use Rattle.ltm_curve.proofs.Places.{counts_tell_all_holds}
use Rattle.ltm_curve.proofs.laws.counts_tell_all.Goals as goal

pub returns : goal.returns
returns c = counts_tell_all_holds
