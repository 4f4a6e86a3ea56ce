use Rattle.std.proofs.Common.{refl}
use Rattle.ltm_index.proofs.Indexed.{places}
use Rattle.ltm_index.proofs.read_index.ReadIndex.place.Goals as goal

pub returns : goal.returns
returns c = places _ _ _ _ _ _ c.requires.link refl c.take_out.ensures.taken c.put_first.ensures.put
