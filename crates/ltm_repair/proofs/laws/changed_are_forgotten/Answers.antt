use Rattle.ltm_repair.proofs.Making.{changed_are_forgotten}
use Rattle.ltm_repair.proofs.laws.changed_are_forgotten.Goals as goal

pub returns : goal.returns
returns c = changed_are_forgotten
