use Rattle.ltm_node.proofs.laws.moves_add.Goals as goal
use Rattle.ltm_node.proofs.Uncounted.{moves_add_holds}

pub returns : goal.returns
returns c = moves_add_holds
