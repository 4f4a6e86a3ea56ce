use Rattle.ltm_program.proofs.Lawful.{sessions_say_holds}
use Rattle.ltm_program.proofs.laws.sessions_say.Goals as goal

pub returns : goal.returns
returns c = sessions_say_holds c.alone_is_a_session.ensures
