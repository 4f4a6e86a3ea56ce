use Rattle.ltm_diagram.proofs.Ranges.{alike}
use Rattle.ltm_diagram.proofs.laws.all_slots_alike.Goals as goal

pub returns : goal.returns
returns c = alike
