use Rattle.ltm_repair.proofs.Work.{drains_are_exact}
use Rattle.ltm_repair.proofs.laws.drains_are_exact.Goals as goal

pub returns : goal.returns
returns c = drains_are_exact
