use Rattle.ltm_times.proofs.SpentSo.{spent_adds_up_holds}
use Rattle.ltm_times.proofs.laws.spent_adds_up.Goals as goal

pub returns : goal.returns
returns c = spent_adds_up_holds c.left_was_ready.ensures c.never_fall.ensures c.adds_up.ensures
