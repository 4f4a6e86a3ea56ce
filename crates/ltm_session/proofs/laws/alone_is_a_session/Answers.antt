use Rattle.ltm_session.proofs.Besides.{alone_is_a_session_holds}
use Rattle.ltm_session.proofs.laws.alone_is_a_session.Goals as goal

pub returns : goal.returns
returns c = alone_is_a_session_holds c.logs_tell_all.ensures
