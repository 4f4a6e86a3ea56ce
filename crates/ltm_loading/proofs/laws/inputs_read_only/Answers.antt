use Rattle.ltm_loading.proofs.Same.{inputs_read_only_holds}
use Rattle.ltm_loading.proofs.laws.inputs_read_only.Goals as goal

pub returns : goal.returns
returns c = inputs_read_only_holds
