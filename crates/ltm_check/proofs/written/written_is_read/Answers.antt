use Rattle.ltm_check.proofs.ReadBack.{written_back}
use Rattle.ltm_check.proofs.written.written_is_read.Goals as goal

pub returns : goal.returns
returns c = written_back
