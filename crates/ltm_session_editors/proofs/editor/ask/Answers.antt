use Rattle.ltm_session_editors.proofs.Calls.{batches_put}
use Rattle.ltm_session_editors.proofs.editor.ask.Goals as goal

pub returns-in-Ok-clause-put : goal.returns-in-Ok-clause-put
returns-in-Ok-clause-put c = batches_put _ _ _ _ _ c.in-Ok.ensures.ok.put
