use Rattle.ltm_script.proofs.Lines.{one_reading}
use Rattle.ltm_script.proofs.line.every_line_is_read.Goals as goal

pub returns : goal.returns
returns c = one_reading
