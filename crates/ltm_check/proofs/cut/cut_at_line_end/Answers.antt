use Rattle.ltm_check.proofs.Cutting.{cuts}
use Rattle.ltm_check.proofs.cut.cut_at_line_end.Goals as goal

pub returns : goal.returns
returns c = cuts
