use Rattle.ltm_diagram.proofs.Ranges.{lost_none}
use Rattle.ltm_diagram.proofs.laws.nothing_is_lost.Goals as goal

pub returns : goal.returns
returns c = lost_none
