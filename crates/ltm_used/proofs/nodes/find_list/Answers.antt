use Rattle.ltm_used.proofs.AtNodes.{first_none, first_more}
use Rattle.ltm_used.proofs.nodes.find_list.Goals as goal

pub loop-k-init : goal.loop-k-init
loop-k-init c = first_none c.args.found.now c.args.list.now

pub loop-k-preserved : goal.loop-k-preserved
loop-k-preserved c = first_more c.args.found.now c.loop-k.found c.find.new.self c.args.list.now c.loop-k.k c.loop-k.invariant c.in_ok-find.ensures.grows c.in_ok-find.ensures.here
