use Rattle.ltm_session.proofs.Each.{lines_settle_once_holds}
use Rattle.ltm_session.proofs.laws.lines_settle_once.Goals as goal

pub returns : goal.returns
returns c = lines_settle_once_holds
