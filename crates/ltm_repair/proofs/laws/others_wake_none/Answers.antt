use Rattle.ltm_repair.proofs.Runs.{others_wake_none}
use Rattle.ltm_repair.proofs.laws.others_wake_none.Goals as goal

pub returns : goal.returns
returns c = others_wake_none
