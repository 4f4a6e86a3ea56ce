use Rattle.std.proofs.Common.{◌<◌, length, slice_index_or, arith}
use Rattle.std.proofs.lemmas.List.{get_or_default}
use Rattle.ltm_lean.proofs.Left.{left_more}
use Rattle.ltm_lean.proofs.leaving.leave_links.Goals as goal

pub loop-i-preserved : goal.loop-i-preserved
loop-i-preserved c =
    let l : c.loop-i.i < length c.loop-i.ins = omega (arith, c.loop-i-test.true, c.loop-i.invariant.long) in
    left_more c.args.ins.now c.loop-i.ins (slice_index_or c.loop-i.ins c.loop-i.i c.index-ins-i.result) c.leave.new.self c.left_row.result.now c.args.outputs.now c.loop-i.i l c.loop-i.invariant
    (get_or_default c.loop-i.ins c.loop-i.i c.index-ins-i.result (slice_index_or c.loop-i.ins c.loop-i.i c.index-ins-i.result) l) c.leave.ensures.same c.left_row.ensures.count c.left_row.ensures.counts c.leave.ensures.gone c.leave.ensures.stands
