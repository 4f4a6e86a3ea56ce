use Rattle.ltm_workers.proofs.Holding.{gave_lays_down}
use Rattle.ltm_workers.proofs.virtual_turns.give_up.Goals as goal

pub returns : goal.returns
returns c = gave_lays_down c.args.core.now c.give_back.new.self c.args.claim c.requires c.give_back.ensures.answer
