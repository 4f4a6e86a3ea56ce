use Rattle.ltm_loading.proofs.SameRows.{inputs_by_place_holds}
use Rattle.ltm_loading.proofs.laws.inputs_by_place.Goals as goal

pub returns : goal.returns
returns c = inputs_by_place_holds
