use Rattle.ltm_loading.proofs.DifferingLaws.{differing_either_way_holds}
use Rattle.ltm_loading.proofs.laws.differing_either_way.Goals as goal

pub returns : goal.returns
returns c = differing_either_way_holds
