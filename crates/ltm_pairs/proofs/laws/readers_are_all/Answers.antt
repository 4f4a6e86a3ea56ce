use Rattle.ltm_pairs.proofs.ReadersAll.{readers_are_all}
use Rattle.ltm_pairs.proofs.laws.readers_are_all.Goals as goal

pub returns : goal.returns
returns c = readers_are_all c.inputs_by_parts.ensures c.set_by_one_pair.ensures
