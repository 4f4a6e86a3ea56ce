use Rattle.ltm_gap.proofs.Cuts.{late_exact}
use Rattle.ltm_gap.proofs.laws.late_is_exact.Goals as goal

pub returns : goal.returns
returns c = late_exact c.arrive_in_order.ensures
