use Rattle.ltm_node.proofs.laws.nothing_lost.Goals as goal
use Rattle.ltm_node.proofs.StepLaws.{nothing_lost_holds}

pub returns : goal.returns
returns c = nothing_lost_holds
