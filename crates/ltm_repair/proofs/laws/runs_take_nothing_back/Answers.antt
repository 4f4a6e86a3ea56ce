use Rattle.ltm_repair.proofs.Runs.{runs_take_nothing_back}
use Rattle.ltm_repair.proofs.laws.runs_take_nothing_back.Goals as goal

pub returns : goal.returns
returns c = runs_take_nothing_back
