use Rattle.ltm_core.proofs.Telling.{lists_tell_all}
use Rattle.ltm_core.proofs.laws.lists_tell_all.Goals as goal

pub returns : goal.returns
returns c = lists_tell_all
