use Rattle.ltm_loading.proofs.ReadsSame.{inputs_by_parts_holds}
use Rattle.ltm_loading.proofs.laws.inputs_by_parts.Goals as goal

pub returns : goal.returns
returns c = inputs_by_parts_holds
