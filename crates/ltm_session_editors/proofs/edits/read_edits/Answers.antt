use Rattle.ltm_session_editors.proofs.Missing.{none_missing}
use Rattle.ltm_session_editors.proofs.edits.read_edits.Goals as goal

pub returns-clause-missed : goal.returns-clause-missed
returns-clause-missed g c = none_missing _ c.read_texts.result c.read_texts.ensures.given
