use Rattle.std.proofs.Common.{◌<◌, length, slice_index_or, arith}
use Rattle.std.proofs.lemmas.List.{get_or_default}
use Rattle.ltm_lean.proofs.Rested.{outs_more}
use Rattle.ltm_lean.proofs.resting.rest_outs.Goals as goal

pub loop-j-preserved : goal.loop-j-preserved
loop-j-preserved c =
    let l : c.loop-j.j < length c.loop-j.outs = omega (arith, c.loop-j-test.true, c.loop-j.invariant.long) in
    outs_more c.args.outs.now c.loop-j.outs (slice_index_or c.loop-j.outs c.loop-j.j c.index-outs-j.result) c.rest.new.self c.loop-j.j c.loop-j.invariant l
    (get_or_default c.loop-j.outs c.loop-j.j c.index-outs-j.result (slice_index_or c.loop-j.outs c.loop-j.j c.index-outs-j.result) l) c.rest.ensures.same c.rest.ensures.came
