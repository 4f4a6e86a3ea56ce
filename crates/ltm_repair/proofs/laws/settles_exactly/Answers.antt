use Rattle.ltm_repair.proofs.Settling.{settles_exactly}
use Rattle.ltm_repair.proofs.laws.settles_exactly.Goals as goal

pub returns : goal.returns
returns c = settles_exactly
