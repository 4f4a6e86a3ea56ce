use Rattle.ltm_gap.proofs.Lawful.{earliest_first}
use Rattle.ltm_gap.proofs.laws.earliest_is_first.Goals as goal

pub returns : goal.returns
returns c = earliest_first c.never_fall.ensures
