use Rattle.ltm_loading.proofs.OutputBounds.{outputs_small_holds}
use Rattle.ltm_loading.proofs.laws.outputs_small.Goals as goal

pub returns : goal.returns
returns c = outputs_small_holds
