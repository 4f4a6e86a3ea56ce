use Rattle.std.proofs.Common.{◌+◌, refl, arith}
use Rattle.ltm_lean_node.proofs.Written.{writes_none, writes_more}
use Rattle.ltm_lean_node.proofs.weights.put_none_at.Goals as goal

pub loop-j-init : goal.loop-j-init
loop-j-init c = writes_none c.args.place (λ j. 0) c.args.into.now

pub loop-j-preserved : goal.loop-j-preserved
loop-j-preserved c = writes_more c.args.place c.loop-j.j (λ j. 0) c.args.into.now c.loop-j.into (c.args.place + c.loop-j.j) 0 c.loop-j.invariant refl (omega (arith, c.loop-j.auto.into, c.loop-j-test.true, c.requires)) refl
