use Rattle.ltm_loading.proofs.One.{one_loading_holds}
use Rattle.ltm_loading.proofs.laws.one_loading.Goals as goal

pub returns : goal.returns
returns c = one_loading_holds
