use Rattle.ltm_node.proofs.laws.no_arrivals.Goals as goal
use Rattle.ltm_node.proofs.Stays.{no_arrivals_holds}

pub returns : goal.returns
returns c = no_arrivals_holds
