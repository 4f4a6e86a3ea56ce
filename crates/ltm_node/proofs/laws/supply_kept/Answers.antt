use Rattle.ltm_node.proofs.laws.supply_kept.Goals as goal
use Rattle.ltm_node.proofs.StepLaws.{supply_kept_holds}

pub returns : goal.returns
returns c = supply_kept_holds
