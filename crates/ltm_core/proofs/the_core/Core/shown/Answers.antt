use Rattle.ltm_core.proofs.Showings.{core_shown_at}
use Rattle.ltm_core.proofs.the_core.Core.shown.Goals as goal

pub returns-clause-is_shown : goal.returns-clause-is_shown
returns-clause-is_shown c = core_shown_at _ _ c.self.view_is c.self.invariant.0
