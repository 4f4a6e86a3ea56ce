use Rattle.ltm_loading.proofs.DifferingLaws.{differences_add_up_holds}
use Rattle.ltm_loading.proofs.laws.differences_add_up.Goals as goal

pub returns : goal.returns
returns c = differences_add_up_holds
