use Rattle.ltm_node.proofs.laws.nothing_lost_in_all.Goals as goal
use Rattle.ltm_node.proofs.StepLaws.{nothing_lost_in_all_holds}

pub returns : goal.returns
returns c = nothing_lost_in_all_holds
