use Rattle.ltm_node.proofs.laws.same_step.Goals as goal
use Rattle.ltm_node.proofs.Stays.{same_step_holds}

pub returns : goal.returns
returns c = same_step_holds
