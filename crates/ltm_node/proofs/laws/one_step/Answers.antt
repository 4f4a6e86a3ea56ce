use Rattle.ltm_node.proofs.laws.one_step.Goals as goal
use Rattle.ltm_node.proofs.StepLaws.{one_step_holds}

pub returns : goal.returns
returns c = one_step_holds
