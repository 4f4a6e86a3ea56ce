use Rattle.ltm_pairs.proofs.ReadersAll.{positions_stay}
use Rattle.ltm_pairs.proofs.laws.positions_stay.Goals as goal

pub returns : goal.returns
returns c = positions_stay c.set_by_one_pair.ensures
