use Rattle.ltm_gap.proofs.Lawful.{in_order}
use Rattle.ltm_gap.proofs.laws.arrive_in_order.Goals as goal

pub returns : goal.returns
returns c = in_order c.earliest_is_first.ensures c.nobody_comes_before.ensures c.never_fall.ensures
