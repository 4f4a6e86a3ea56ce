use Rattle.std.proofs.Common.{length}
use Rattle.ltm_scenario.proofs.same.+same_edits.Given as goal

abbrev pub decreases-same_edits : goal.decreases-same_edits
decreases-same_edits l = length l.a.now
