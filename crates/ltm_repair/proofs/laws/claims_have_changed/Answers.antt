use Rattle.ltm_repair.proofs.Runs.{claims_have_changed}
use Rattle.ltm_repair.proofs.laws.claims_have_changed.Goals as goal

pub returns : goal.returns
returns c = claims_have_changed
