use Rattle.ltm_existence.proofs.Fronts.{there_is_a_loading_holds}
use Rattle.ltm_existence.proofs.laws.there_is_a_loading.Goals as goal

pub returns : goal.returns
returns c = there_is_a_loading_holds
