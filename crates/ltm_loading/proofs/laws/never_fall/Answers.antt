use Rattle.ltm_loading.proofs.Holds.{never_fall_holds}
use Rattle.ltm_loading.proofs.laws.never_fall.Goals as goal

pub returns : goal.returns
returns c = never_fall_holds
