use Rattle.std.proofs.Common.{length}
use Rattle.ltm_scenario.proofs.parts.reads.+weight_of.Given as goal

abbrev pub decreases-weight_of : goal.decreases-weight_of
decreases-weight_of l = length l.weights.now
