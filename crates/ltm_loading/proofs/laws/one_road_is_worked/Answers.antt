use Rattle.ltm_loading.proofs.OneRoad.{one_road_is_worked_holds}
use Rattle.ltm_loading.proofs.laws.one_road_is_worked.Goals as goal

pub returns : goal.returns
returns c = one_road_is_worked_holds
