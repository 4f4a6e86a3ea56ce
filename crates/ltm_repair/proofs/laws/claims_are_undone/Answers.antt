use Rattle.ltm_repair.proofs.Waits.{claims_are_undone}
use Rattle.ltm_repair.proofs.laws.claims_are_undone.Goals as goal

pub returns : goal.returns
returns c = claims_are_undone
