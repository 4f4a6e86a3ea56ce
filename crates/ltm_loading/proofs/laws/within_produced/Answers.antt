use Rattle.ltm_loading.proofs.Holds.{within_produced_holds}
use Rattle.ltm_loading.proofs.laws.within_produced.Goals as goal

pub returns : goal.returns
returns c = within_produced_holds
