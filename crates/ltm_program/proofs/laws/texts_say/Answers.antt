use Rattle.ltm_program.proofs.Lawful.{texts_say_holds}
use Rattle.ltm_program.proofs.laws.texts_say.Goals as goal

pub returns : goal.returns
returns c = texts_say_holds
