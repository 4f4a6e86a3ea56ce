use Rattle.ltm_node.proofs.laws.nothing_moves.Goals as goal
use Rattle.ltm_node.proofs.Stays.{nothing_moves_holds}

pub returns : goal.returns
returns c = nothing_moves_holds
