use Rattle.ltm_times.proofs.WasReady.{left_was_ready_holds}
use Rattle.ltm_times.proofs.laws.left_was_ready.Goals as goal

pub returns : goal.returns
returns c = left_was_ready_holds c.first_in_first_out.ensures c.links_are_ready.ensures c.first_sums.ensures
