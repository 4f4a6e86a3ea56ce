use Rattle.ltm_used.proofs.Outside.{nothing_else_holds}
use Rattle.ltm_used.proofs.laws.nothing_else.Goals as goal

pub returns : goal.returns
returns c = nothing_else_holds
