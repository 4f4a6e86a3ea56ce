use Rattle.ltm_program.proofs.Lawful.{refusals_say_holds}
use Rattle.ltm_program.proofs.laws.refusals_say.Goals as goal

pub returns : goal.returns
returns c = refusals_say_holds
