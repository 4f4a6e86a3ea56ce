use Rattle.ltm_diagram.proofs.Ranges.{either}
use Rattle.ltm_diagram.proofs.laws.whole_or_one_more.Goals as goal

pub returns : goal.returns
returns c = either
