use Rattle.std.proofs.Common.{ap, ◌∙◌}
use Rattle.std.specs.Prelude.{Ok, Err}
use Rattle.ltm_script.specs.Line.{reading}
use Rattle.ltm_flows.specs.Shown.{version_of}
use Rattle.ltm_session.specs.declared.ends.SessionEnd.{SessionEnd}
use Rattle.ltm_session.specs.Analysts.{state_of}
use Rattle.ltm_session.specs.Answers.{AnswersAlone}
use Rattle.ltm_session.proofs.OneMachine.{answers_one, stops_one, whenever}
use Rattle.ltm_session_viewers.proofs.Growing.{grows}
use Rattle.ltm_session_viewers.proofs.Posts.{posted_still, few_still, shown_newer}
use Rattle.ltm_session_viewers.proofs.Scripted.{stops_posting}
use Rattle.ltm_session_viewers.proofs.viewed.ViewedAnswerer.serve_line.Goals as goal

pub returns-in-Err-clause-err : goal.returns-in-Err-clause-err
returns-in-Err-clause-err g c =
    stops_one {A = Unit {0}} AnswersAlone (state_of c.args.self.core.now) (state_of c.serve_line.new.core) c.args.line.now (g.W.Sink.written c.args.sink.now)
    (g.W.Sink.written c.serve_line.new.sink) (Err c.in-Err.end) c.in-Err.ensures.err

pub post_newer-posted-requires-clause-posted : goal.post_newer-posted-requires-clause-posted
post_newer-posted-requires-clause-posted g c =
    let (text, said, wrote) = c.in_default.ensures.ok in
    posted_still c.args.self.core.now c.serve_line.new.core c.version-before.result c.args.self.boards
    (grows (state_of c.args.self.core.now) (state_of c.serve_line.new.core) (reading c.args.line.now) text said) c.shown.ensures.is_shown.is_version
    (c.version-before.ensures ∙ ap version_of c.shown.ensures.loading) c.requires.1

pub post_newer-posted-requires-clause-few : goal.post_newer-posted-requires-clause-few
post_newer-posted-requires-clause-few g c =
    let (text, said, wrote) = c.in_default.ensures.ok in
    few_still c.args.self.core.now c.serve_line.new.core c.version-before.result
    (grows (state_of c.args.self.core.now) (state_of c.serve_line.new.core) (reading c.args.line.now) text said) c.shown.ensures.is_shown.is_version
    (c.version-before.ensures ∙ ap version_of c.shown.ensures.loading)

pub post_newer-posted-requires-clause-newer : goal.post_newer-posted-requires-clause-newer
post_newer-posted-requires-clause-newer g c =
    let (text, said, wrote) = c.in_default.ensures.ok in
    shown_newer c.args.self.core.now c.serve_line.new.core c.version-before.result
    (grows (state_of c.args.self.core.now) (state_of c.serve_line.new.core) (reading c.args.line.now) text said)
    (c.version-before.ensures ∙ ap version_of c.shown.ensures.loading)

pub returns-clause-ok : goal.returns-clause-ok
returns-clause-ok g c =
    whenever c.post_newer-posted.result
    (answers_one {A = Unit {0}} {B = SessionEnd} AnswersAlone (state_of c.args.self.core.now) (state_of c.serve_line.new.core) c.args.line.now
    (g.W.Sink.written c.args.sink.now) (g.W.Sink.written c.serve_line.new.sink) (Ok tt) c.in_default.ensures.ok)

pub returns-clause-err : goal.returns-clause-err
returns-clause-err g c =
    let (text, said, wrote) = c.in_default.ensures.ok in
    stops_posting AnswersAlone (state_of c.args.self.core.now) (state_of c.serve_line.new.core) c.args.line.now text (g.W.Sink.written c.args.sink.now)
    (g.W.Sink.written c.serve_line.new.sink) c.post_newer-posted.result c.post_newer-posted.ensures.end said wrote
