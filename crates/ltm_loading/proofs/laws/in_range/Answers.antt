use Rattle.ltm_loading.proofs.Bounds.{in_range_holds}
use Rattle.ltm_loading.proofs.laws.in_range.Goals as goal

pub returns : goal.returns
returns c = in_range_holds
