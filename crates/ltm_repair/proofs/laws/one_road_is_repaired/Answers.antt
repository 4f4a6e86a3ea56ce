use Rattle.ltm_repair.proofs.OneRoad.{one_road_is_repaired}
use Rattle.ltm_repair.proofs.laws.one_road_is_repaired.Goals as goal

pub returns : goal.returns
returns c = one_road_is_repaired
