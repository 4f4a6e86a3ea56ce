use Rattle.ltm_pairs.proofs.EditKeeps.{edits_keep}
use Rattle.ltm_pairs.proofs.laws.edits_keep.Goals as goal

pub returns : goal.returns
returns c = edits_keep c.edits_make.ensures c.limits_stay_whole.ensures
