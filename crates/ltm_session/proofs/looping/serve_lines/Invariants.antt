use Rattle.std.proofs.Common.{◌≡◌, ◌≤◌, None}
use Rattle.ltm_io.specs.Lines.{max_of, kept_by, coming}
use Rattle.ltm_session.proofs.Loops.{ServesSoFar}
use Rattle.ltm_session.proofs.looping.serve_lines.Given as goal

abbrev pub invariant-loop-answered : goal.invariant-loop-answered
invariant-loop-answered g l =
    (kept_by l.lines ≡ None) × (max_of l.lines ≡ 65536) × g.A.Answerer.awaits l.answerer × g.A.Answerer.keeps l.fn.answerer l.answerer
    × ServesSoFar g.A.Answerer.rule (g.A.Answerer.knows l.fn.answerer) (g.A.Answerer.knows l.answerer) (g.S.Source.left l.fn.source)
    (coming l.lines (g.S.Source.left l.source)) (g.W.Sink.written l.fn.sink) (g.W.Sink.written l.sink) l.answered
    × (g.S.Source.faults l.fn.source ≤ g.S.Source.faults l.source) × (g.W.Sink.faults l.fn.sink ≤ g.W.Sink.faults l.sink)
