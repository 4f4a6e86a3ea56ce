use Rattle.ltm_repair.proofs.Runs.{batches_wake_touched}
use Rattle.ltm_repair.proofs.laws.batches_wake_touched.Goals as goal

pub returns : goal.returns
returns c = batches_wake_touched
