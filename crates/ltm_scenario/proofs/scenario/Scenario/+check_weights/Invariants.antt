use Rattle.std.proofs.Common.{length}
use Rattle.ltm_scenario.proofs.scenario.Scenario.+check_weights.Given as goal

abbrev pub decreases-check_weights : goal.decreases-check_weights
decreases-check_weights l = length l.links.now
