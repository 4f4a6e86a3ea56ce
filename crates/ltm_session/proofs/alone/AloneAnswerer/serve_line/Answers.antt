use Rattle.ltm_session.specs.Analysts.{state_of}
use Rattle.ltm_session.specs.Answers.{AnswersAlone}
use Rattle.ltm_session.proofs.OneMachine.{answers_one, stops_one, whenever}
use Rattle.ltm_session.proofs.alone.AloneAnswerer.serve_line.Goals as goal

pub serve_line-done-requires : goal.serve_line-done-requires
serve_line-done-requires g c = c.requires

pub returns : goal.returns
returns g c = record {
  ok = answers_one AnswersAlone (state_of c.args.self.core) (state_of c.serve_line-done.new.core) c.args.line.now (g.W.Sink.written c.args.sink.now)
      (g.W.Sink.written c.serve_line-done.new.sink) c.serve_line-done.result c.serve_line-done.ensures.ok;
  err = stops_one AnswersAlone (state_of c.args.self.core) (state_of c.serve_line-done.new.core) c.args.line.now (g.W.Sink.written c.args.sink.now)
      (g.W.Sink.written c.serve_line-done.new.sink) c.serve_line-done.result c.serve_line-done.ensures.err;
  awaits = whenever c.serve_line-done.result c.serve_line-done.ensures.awaits;
  keeps = λ p. c.serve_line-done.ensures.awaits;
  later = c.serve_line-done.ensures.later;
  fault = c.serve_line-done.ensures.fault;
}
