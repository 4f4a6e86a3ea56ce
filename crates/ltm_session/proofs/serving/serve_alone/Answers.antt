use Rattle.ltm_session.specs.Analysts.{state_of, opening_of}
use Rattle.ltm_session.specs.Answers.{AnswersAlone}
use Rattle.ltm_session.proofs.Opening.{awaits_first, opens}
use Rattle.ltm_session.proofs.Progress.{never_begun_at}
use Rattle.ltm_session.proofs.OneMachine.{served_one}
use Rattle.ltm_session.proofs.Ending.{ends_as_told}
use Rattle.ltm_session.proofs.serving.serve_alone.Goals as goal

pub serve_lines-alone-requires-clause-awaits : goal.serve_lines-alone-requires-clause-awaits
serve_lines-alone-requires-clause-awaits g c = awaits_first c.args.core c.facts.ensures c.requires.fresh

pub returns-in-Ok-clause-session : goal.returns-in-Ok-clause-session
returns-in-Ok-clause-session g c =
    served_one AnswersAlone (opening_of c.args.core) (state_of c.args.core) (state_of c.serve_lines-alone.result.0.core) _ _ _ _ _
    (opens c.args.core c.facts.ensures c.requires.fresh) c.serve_lines-alone.ensures.serves

pub returns-in-Ok-clause-end : goal.returns-in-Ok-clause-end
returns-in-Ok-clause-end g c =
    let (output, so, wrote) = returns-in-Ok-clause-session g c in
    ends_as_told AnswersAlone (opening_of c.args.core) (g.S.Source.left c.args.source.now) _ output c.serve_lines-alone.result.1 (state_of c.serve_lines-alone.result.0.core) so

pub returns-in-Ok-clause-read : goal.returns-in-Ok-clause-read
returns-in-Ok-clause-read g c = c.serve_lines-alone.ensures.serves.read

pub returns-in-Err-clause-session : goal.returns-in-Err-clause-session
returns-in-Err-clause-session g c =
    never_begun_at AnswersAlone (opening_of c.args.core) (g.S.Source.left c.args.source.now) (g.S.Source.left c.args.source.now) (g.W.Sink.written c.args.sink.now) (state_of c.args.core)
    (opens c.args.core c.facts.ensures c.requires.fresh)

pub returns-in-Err-clause-awaits : goal.returns-in-Err-clause-awaits
returns-in-Err-clause-awaits g c = awaits_first c.args.core c.facts.ensures c.requires.fresh

pub returns-in-Ok-clause-awaits : goal.returns-in-Ok-clause-awaits
returns-in-Ok-clause-awaits g c = c.serve_lines-alone.ensures.keeps (awaits_first c.args.core c.facts.ensures c.requires.fresh)

pub returns-in-Ok-clause-read_fault : goal.returns-in-Ok-clause-read_fault
returns-in-Ok-clause-read_fault g c = c.serve_lines-alone.ensures.read_fault

pub returns-in-Ok-clause-write_fault : goal.returns-in-Ok-clause-write_fault
returns-in-Ok-clause-write_fault g c = c.serve_lines-alone.ensures.write_fault

pub returns-in-Ok-clause-later : goal.returns-in-Ok-clause-later
returns-in-Ok-clause-later g c = c.serve_lines-alone.ensures.later
