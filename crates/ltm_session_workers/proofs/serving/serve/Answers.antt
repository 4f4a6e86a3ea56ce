use Rattle.std.proofs.Common.{refl}
use Rattle.ltm_session.proofs.Opening.{opens}
use Rattle.ltm_session_workers.proofs.Known.{served_alone, served_beside, never_served, ends_beside, read_whole}
use Rattle.ltm_session_workers.proofs.serving.serve.Goals as goal

pub returns-then-workers-eq0-clause-session : goal.returns-then-workers-eq0-clause-session
returns-then-workers-eq0-clause-session g c = served_alone c.logs_tell_all.ensures _ _ _ _ _ c.args.core c.serve_alone.result.core c.serve_alone.ensures.session

pub returns-in_default-clause-session : goal.returns-in_default-clause-session
returns-in_default-clause-session g c = never_served _ _ _ c.args.core c.args.core (opens c.args.core c.facts.ensures c.requires.fresh) refl

pub returns-in-Ok-create-clause-session : goal.returns-in-Ok-create-clause-session
returns-in-Ok-create-clause-session g c =
    served_beside c.lists_tell_all.ensures _ _ _ _ _ c.args.core c.close-core.result _ _ _ _ c.facts.ensures.came c.facts-in-Ok-create.ensures.came (opens c.args.core c.facts.ensures c.requires.fresh)
    c.in-Ok-create.ensures.ok.1 c.in-Ok-create.ensures.ok.2 c.crew-editor.ensures.session c.close-core.ensures.list

pub returns-in-Err-clause-session : goal.returns-in-Err-clause-session
returns-in-Err-clause-session g c = never_served _ _ _ c.args.core _ (opens c.args.core c.facts.ensures c.requires.fresh) c.in-Err.ensures.err

pub returns-in-Ok-create-clause-end : goal.returns-in-Ok-create-clause-end
returns-in-Ok-create-clause-end g c = ends_beside _ _ _ _ _ c.args.core c.close-core.result (returns-in-Ok-create-clause-session g c)

pub returns-in-Ok-create-clause-read : goal.returns-in-Ok-create-clause-read
returns-in-Ok-create-clause-read g c = read_whole _ _ _ c.crew-editor.ensures.read
