use Rattle.ltm_loading.proofs.Uncounted.{step_by_moves_holds}
use Rattle.ltm_loading.proofs.laws.step_by_moves.Goals as goal

pub returns : goal.returns
returns c = step_by_moves_holds
