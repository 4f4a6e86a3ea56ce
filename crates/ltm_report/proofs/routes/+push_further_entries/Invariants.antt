use Rattle.std.proofs.Common.{length}
use Rattle.ltm_report.proofs.routes.+push_further_entries.Given as goal

abbrev pub decreases-push_further_entries : goal.decreases-push_further_entries
decreases-push_further_entries l = length l.links.now
