use Rattle.ltm_gap.proofs.Spent.{spent_adds}
use Rattle.ltm_gap.proofs.laws.spent_adds_up.Goals as goal

pub returns : goal.returns
returns c = spent_adds c.within_produced.ensures c.conserved.ensures
