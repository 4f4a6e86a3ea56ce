use Rattle.ltm_core.proofs.Running.{core_holds_at}
use Rattle.ltm_core.proofs.the_core.Core.facts.Goals as goal

pub returns : goal.returns
returns c = core_holds_at c.repair_laws.ensures c.none_twice.ensures _ _ c.self.view_is c.self.invariant.0 c.self.invariant.1
