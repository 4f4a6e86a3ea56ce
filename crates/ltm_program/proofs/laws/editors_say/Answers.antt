use Rattle.ltm_program.proofs.Lawful.{editors_say_holds}
use Rattle.ltm_program.proofs.laws.editors_say.Goals as goal

pub returns : goal.returns
returns c = editors_say_holds
