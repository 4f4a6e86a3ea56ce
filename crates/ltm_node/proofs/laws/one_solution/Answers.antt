use Rattle.ltm_node.proofs.laws.one_solution.Goals as goal
use Rattle.ltm_node.proofs.StepLaws.{one_solution_of_inputs}

pub returns : goal.returns
returns c = one_solution_of_inputs
