use Rattle.ltm_repair.proofs.Work.{none_twice}
use Rattle.ltm_repair.proofs.laws.none_twice.Goals as goal

pub returns : goal.returns
returns c = none_twice
