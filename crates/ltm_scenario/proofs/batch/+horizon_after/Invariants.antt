use Rattle.std.proofs.Common.{length}
use Rattle.ltm_scenario.proofs.batch.+horizon_after.Given as goal

abbrev pub decreases-horizon_after : goal.decreases-horizon_after
decreases-horizon_after l = length l.edits.now
