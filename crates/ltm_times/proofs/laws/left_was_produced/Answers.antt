use Rattle.ltm_times.proofs.WasReady.{left_was_produced_holds}
use Rattle.ltm_times.proofs.laws.left_was_produced.Goals as goal

pub returns : goal.returns
returns c = left_was_produced_holds c.within_produced.ensures
