use Rattle.ltm_loading.proofs.One.{one_front_holds}
use Rattle.ltm_loading.proofs.laws.one_front.Goals as goal

pub returns : goal.returns
returns c = one_front_holds
