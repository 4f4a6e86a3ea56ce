use Rattle.ltm_loading.proofs.Uncounted.{uncounted_in_range_holds}
use Rattle.ltm_loading.proofs.laws.uncounted_in_range.Goals as goal

pub returns : goal.returns
returns c = uncounted_in_range_holds
