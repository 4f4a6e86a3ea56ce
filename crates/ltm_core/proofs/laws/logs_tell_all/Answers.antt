use Rattle.ltm_core.proofs.Logs.{logs_tell_all}
use Rattle.ltm_core.proofs.laws.logs_tell_all.Goals as goal

pub returns : goal.returns
returns c = logs_tell_all
