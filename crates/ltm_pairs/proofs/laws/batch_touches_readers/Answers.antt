use Rattle.ltm_pairs.proofs.EditKeeps.{batch_touches_readers}
use Rattle.ltm_pairs.proofs.laws.batch_touches_readers.Goals as goal

pub returns : goal.returns
returns c = batch_touches_readers c.edits_make.ensures c.edits_keep.ensures c.touched_holds_readers.ensures
