use Rattle.ltm_core.proofs.Running.{runs_hold}
use Rattle.ltm_core.proofs.laws.runs_of_cores.Goals as goal

pub returns : goal.returns
returns c = runs_hold c.run_laws.ensures
