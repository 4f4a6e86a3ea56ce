use Rattle.ltm_shares.proofs.laws.one_solution.Goals as goal
use Rattle.ltm_shares.proofs.Unique.{one_solution_holds}

pub returns : goal.returns
returns c = one_solution_holds
