use Rattle.std.proofs.Common.{◌≡◌, arith, sym, subst}
use Rattle.ltm_io.specs.Lines.{coming}
use Rattle.ltm_session.specs.Serving.{EndsIfTold}
use Rattle.ltm_session.proofs.Loops.{coming_first, serves_first, serves_more, serves_ends, serves_stops, no_stop}
use Rattle.ltm_session.proofs.Progress.{no_fault_read}
use Rattle.ltm_session.proofs.looping.serve_lines.Goals as goal

pub loop-answered-init : goal.loop-answered-init
loop-answered-init g c = (
  c.requires.unread.none_kept,
  c.requires.unread.longest,
  c.requires.awaits,
  g.met.A.Answerer.stays c.args.answerer,
  serves_first g.A.Answerer.rule (g.A.Answerer.knows c.args.answerer) _ _ _ (coming_first _ (g.S.Source.left c.args.source.now) c.requires.unread.none_taken),
  omega arith,
  omega arith,
)

pub returns-in-Err-clause-serves : goal.returns-in-Err-clause-serves
returns-in-Err-clause-serves g c =
    let so = c.loop-answered.invariant.4 in
    serves_ends g.A.Answerer.rule _ _ _ _ _ _ _ _ c.in-Err.end so (omega arith) c.in-Err.ensures.end

pub returns-in-Err-done-clause-serves : goal.returns-in-Err-done-clause-serves
returns-in-Err-done-clause-serves g c =
    let so = c.loop-answered.invariant.4 in
    serves_stops g.A.Answerer.rule _ _ _ _ _ _ _ _ _ _ _ c.text.result.now c.in-Err-done.end so (omega arith)
    (rw (sym c.text.ensures) at c.in_default.ensures.line) (rw (sym c.text.ensures) at c.in_default.ensures.fits) (rw c.in-Err-done.is at c.serve_line-after.ensures.err)

pub returns-in-Err-clause-awaits : goal.returns-in-Err-clause-awaits
returns-in-Err-clause-awaits g c = λ write memory. c.loop-answered.invariant.2

pub returns-in-Err-done-clause-awaits : goal.returns-in-Err-done-clause-awaits
returns-in-Err-done-clause-awaits g c = λ write memory. let stops = rw c.in-Err-done.is at c.serve_line-after.ensures.err in absurd (no_stop c.in-Err-done.end stops.which write memory)

pub returns-clause-awaits : goal.returns-clause-awaits
returns-clause-awaits g c = λ write memory. c.loop-answered.invariant.2

pub returns-in-Err-done-clause-read_fault : goal.returns-in-Err-done-clause-read_fault
returns-in-Err-done-clause-read_fault g c = λ is. let stops = rw c.in-Err-done.is at c.serve_line-after.ensures.err in absurd (no_fault_read c.in-Err-done.end stops.which is)

pub loop-answered-preserved : goal.loop-answered-preserved
loop-answered-preserved g c =
    let (kept, max, awaits, keeps, so, s_faults, w_faults) = c.loop-answered.invariant in
    let (words, is, wrote) = rw c.in_default-done.is at c.serve_line-after.ensures.ok in (
      c.in_default.ensures.unkept,
      c.in_default.ensures.max,
      rw c.in_default-done.is at c.serve_line-after.ensures.awaits,
      g.met.A.Answerer.goes_on _ _ _ keeps c.serve_line-after.ensures.keeps,
      serves_more g.A.Answerer.rule _ _ _ _ _ _ _ _ _ _ c.text.result.now words so (rw c.text.ensures c.in_default.ensures.line)
          (rw c.text.ensures c.in_default.ensures.fits) is wrote,
      omega (arith, s_faults, c.in_default.ensures.later),
      omega (arith, w_faults, c.serve_line-after.ensures.later),
    )

pub returns-clause-serves : goal.returns-clause-serves
returns-clause-serves g c =
    let so = c.loop-answered.invariant.4 in
    let all : c.loop-answered.answered ≡ 100000 = omega arith in
    serves_ends g.A.Answerer.rule _ _ _ _ _ _ _ _ c.end_of_lines-end.result so (omega arith)
    (subst (λ n. EndsIfTold c.end_of_lines-end.result n (coming c.loop-answered.lines (g.S.Source.left c.loop-answered.source)) (g.S.Source.left c.end_of_lines-end.new.source)) (sym all)
    c.end_of_lines-end.ensures.end)
