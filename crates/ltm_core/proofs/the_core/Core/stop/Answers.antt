use Rattle.std.proofs.Common.{true}
use Rattle.ltm_core.proofs.Settlings.{core_stops, came_stops}
use Rattle.ltm_core.proofs.the_core.Core.stop.Goals as goal

pub invariant_of-self : goal.invariant_of-self
invariant_of-self c = (core_stops _ true c.self.invariant.0, came_stops _ true c.self.invariant.1)
