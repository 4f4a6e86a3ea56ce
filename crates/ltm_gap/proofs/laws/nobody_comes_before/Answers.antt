use Rattle.ltm_gap.proofs.Lawful.{nobody_before}
use Rattle.ltm_gap.proofs.laws.nobody_comes_before.Goals as goal

pub returns : goal.returns
returns c = nobody_before c.earliest_is_first.ensures
