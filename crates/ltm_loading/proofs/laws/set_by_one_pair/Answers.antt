use Rattle.ltm_loading.proofs.OneSetter.{set_by_one_pair_holds}
use Rattle.ltm_loading.proofs.laws.set_by_one_pair.Goals as goal

pub returns : goal.returns
returns c = set_by_one_pair_holds
