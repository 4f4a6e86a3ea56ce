use Rattle.ltm_repair.proofs.Settling.{count_is_bounded}
use Rattle.ltm_repair.proofs.laws.count_is_bounded.Goals as goal

pub returns : goal.returns
returns c = count_is_bounded
