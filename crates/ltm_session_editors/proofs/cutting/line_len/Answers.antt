use Rattle.std.proofs.Common.{add-one}
use Rattle.ltm_session_editors.proofs.Cut.{first_line}
use Rattle.ltm_session_editors.proofs.cutting.line_len.Goals as goal

pub returns-clause-first : goal.returns-clause-first
returns-clause-first c = λ some. rw add-one (first_line c.args.text.now c.newline_at.result some c.newline_at.ensures.within c.newline_at.ensures.before c.newline_at.ensures.found)
