use Rattle.ltm_used.proofs.Finding.{found_are_closed_holds}
use Rattle.ltm_used.proofs.laws.found_are_closed.Goals as goal

pub returns : goal.returns
returns c = found_are_closed_holds
