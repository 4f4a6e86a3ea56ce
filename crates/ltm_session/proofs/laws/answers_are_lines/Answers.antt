use Rattle.ltm_session.proofs.Kept.{are_lines}
use Rattle.ltm_session.proofs.laws.answers_are_lines.Goals as goal

pub returns : goal.returns
returns c = are_lines
