use Rattle.ltm_diagram.proofs.Ranges.{in_range}
use Rattle.ltm_diagram.proofs.laws.limits_in_range.Goals as goal

pub returns : goal.returns
returns c = in_range
