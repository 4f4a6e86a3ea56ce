use Rattle.ltm_loading.proofs.Reading.{links_are_ready_holds}
use Rattle.ltm_loading.proofs.laws.links_are_ready.Goals as goal

pub returns : goal.returns
returns c = links_are_ready_holds
