use Rattle.std.proofs.Common.{◌<◌, length, slice_index_or, arith}
use Rattle.std.proofs.lemmas.List.{get_or_default}
use Rattle.ltm_lean.proofs.Rested.{rest_more}
use Rattle.ltm_lean.proofs.resting.rest_ins.Goals as goal

pub loop-i-preserved : goal.loop-i-preserved
loop-i-preserved c =
    let l : c.loop-i.i < length c.loop-i.ins = omega (arith, c.loop-i-test.true, c.loop-i.invariant.long) in
    rest_more c.args.ins.now c.loop-i.ins (slice_index_or c.loop-i.ins c.loop-i.i c.index-ins-i.result) c.rest.new.self c.loop-i.i c.loop-i.invariant l
    (get_or_default c.loop-i.ins c.loop-i.i c.index-ins-i.result (slice_index_or c.loop-i.ins c.loop-i.i c.index-ins-i.result) l) c.rest.ensures.same c.rest.ensures.gone c.rest.ensures.stands
