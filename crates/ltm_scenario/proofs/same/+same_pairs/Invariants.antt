use Rattle.std.proofs.Common.{length}
use Rattle.ltm_scenario.proofs.same.+same_pairs.Given as goal

abbrev pub decreases-same_pairs : goal.decreases-same_pairs
decreases-same_pairs l = length l.a.now
