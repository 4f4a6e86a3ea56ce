use Rattle.ltm_loading.proofs.Crossing.{totals_small_holds}
use Rattle.ltm_loading.proofs.laws.totals_small.Goals as goal

pub returns : goal.returns
returns c = totals_small_holds
