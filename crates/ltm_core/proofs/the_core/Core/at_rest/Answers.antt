use Rattle.ltm_core.proofs.Cores.{rests_at}
use Rattle.ltm_core.proofs.the_core.Core.at_rest.Goals as goal

pub returns : goal.returns
returns c = rests_at _ _ c.is_at_rest.result c.self.view_is c.self.invariant.0 c.is_at_rest.ensures
