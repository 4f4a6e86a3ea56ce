use Rattle.ltm_loading.proofs.Reading.{origins_are_ready_holds}
use Rattle.ltm_loading.proofs.laws.origins_are_ready.Goals as goal

pub returns : goal.returns
returns c = origins_are_ready_holds
