use Rattle.ltm_repair.proofs.Settling.{settle_tells}
use Rattle.ltm_repair.proofs.laws.settle_tells.Goals as goal

pub returns : goal.returns
returns c = settle_tells
