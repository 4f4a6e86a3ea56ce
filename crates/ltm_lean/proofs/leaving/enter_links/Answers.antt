use Rattle.std.proofs.Common.{◌<◌, length, slice_index_or, arith}
use Rattle.std.proofs.lemmas.List.{get_or_default}
use Rattle.ltm_lean.proofs.Left.{entered_more}
use Rattle.ltm_lean.proofs.leaving.enter_links.Goals as goal

pub loop-j-preserved : goal.loop-j-preserved
loop-j-preserved c =
    let l : c.loop-j.j < length c.loop-j.outs = omega (arith, c.loop-j-test.true, c.loop-j.invariant.long) in
    entered_more c.args.outs.now c.loop-j.outs (slice_index_or c.loop-j.outs c.loop-j.j c.index-outs-j.result) c.enter.new.self c.entered_row.result.now c.args.outputs.now c.loop-j.j l c.loop-j.invariant
    (get_or_default c.loop-j.outs c.loop-j.j c.index-outs-j.result (slice_index_or c.loop-j.outs c.loop-j.j c.index-outs-j.result) l) c.enter.ensures.same c.entered_row.ensures.count c.entered_row.ensures.counts c.enter.ensures.entered

pub returns-clause-came : goal.returns-clause-came
returns-clause-came c = λ s x counts u t outs moving j d l. c.loop-j.invariant.came s x counts u t outs moving j d (omega (arith, c.loop-j-test.false, c.loop-j.invariant.long, outs.count, l)) l
