use Rattle.ltm_core.proofs.Showings.{core_network_at}
use Rattle.ltm_core.proofs.the_core.Core.scenario.Goals as goal

pub returns-clause-network : goal.returns-clause-network
returns-clause-network c = core_network_at _ _ c.self.view_is c.self.invariant.0
