use Rattle.ltm_node.proofs.laws.same_shape.Goals as goal
use Rattle.ltm_node.proofs.Stays.{same_shape_holds}

pub returns : goal.returns
returns c = same_shape_holds
