use Rattle.ltm_core.proofs.Logs.{none_kept}
use Rattle.ltm_core.proofs.log.Log.begin.Goals as goal

pub returns : goal.returns
returns c = none_kept c.args.opening _ _ c.new.ensures.items c.new-2.ensures.items
