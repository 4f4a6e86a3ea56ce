use Rattle.ltm_loading.proofs.Conserve.{conserved_holds}
use Rattle.ltm_loading.proofs.laws.conserved.Goals as goal

pub returns : goal.returns
returns c = conserved_holds
