use Rattle.std.proofs.Common.{length}
use Rattle.ltm_scenario.proofs.parts.Parts.+accept_from.Given as goal

abbrev pub decreases-accept_from : goal.decreases-accept_from
decreases-accept_from l = length l.edits.now
