use Rattle.std.proofs.Common.{◌+◌, slice_index, refl, arith}
use Rattle.ltm_lean_node.proofs.Written.{writes_none, writes_more}
use Rattle.ltm_lean_node.proofs.weights.put_at.Goals as goal

pub loop-j-init : goal.loop-j-init
loop-j-init c = writes_none c.args.place (slice_index c.args.numbers.now) c.args.into.now

pub loop-j-preserved : goal.loop-j-preserved
loop-j-preserved c =
    writes_more c.args.place c.loop-j.j (slice_index c.args.numbers.now) c.args.into.now c.loop-j.into (c.args.place + c.loop-j.j) (slice_index c.args.numbers.now c.loop-j.j) c.loop-j.invariant refl (omega (arith, c.loop-j.auto.into, c.loop-j-test.true, c.requires)) refl
