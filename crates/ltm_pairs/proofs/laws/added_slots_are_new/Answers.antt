use Rattle.ltm_pairs.proofs.Horizons.{added_slots_are_new}
use Rattle.ltm_pairs.proofs.laws.added_slots_are_new.Goals as goal

pub returns : goal.returns
returns c = added_slots_are_new c.edits_make.ensures
