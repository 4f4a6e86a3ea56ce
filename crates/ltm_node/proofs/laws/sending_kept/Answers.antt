use Rattle.ltm_node.proofs.laws.sending_kept.Goals as goal
use Rattle.ltm_node.proofs.StepLaws.{sending_kept_holds}

pub returns : goal.returns
returns c = sending_kept_holds
