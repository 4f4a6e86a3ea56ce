use Rattle.ltm_loading.proofs.Bounds.{counts_small_holds}
use Rattle.ltm_loading.proofs.laws.counts_small.Goals as goal

pub returns : goal.returns
returns c = counts_small_holds
