use Rattle.ltm_loading.proofs.Setters.{next_pair_holds}
use Rattle.ltm_loading.proofs.laws.next_pair.Goals as goal

pub returns : goal.returns
returns c = next_pair_holds
