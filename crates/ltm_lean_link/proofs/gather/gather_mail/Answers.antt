use Rattle.ltm_lean_link.proofs.Summing.{sums_none}
use Rattle.ltm_lean_link.proofs.gather.gather_mail.Goals as goal

pub loop-i-init : goal.loop-i-init
loop-i-init c = sums_none c.args.into.now c.args.moved.now c.args.places.now
