use Rattle.ltm_repair.proofs.Index.{index_stays_current}
use Rattle.ltm_repair.proofs.laws.index_stays_current.Goals as goal

pub returns : goal.returns
returns c = index_stays_current
