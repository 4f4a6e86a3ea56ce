use Rattle.std.proofs.Common.{length}
use Rattle.ltm_scenario.proofs.parts.Parts.+all_lead_on.Given as goal

abbrev pub decreases-all_lead_on : goal.decreases-all_lead_on
decreases-all_lead_on l = length l.links.now
