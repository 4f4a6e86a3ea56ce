use Rattle.ltm_editors.proofs.Legal.{office_at}
use Rattle.ltm_editors.proofs.office.Office.facts.Goals as goal

pub returns : goal.returns
returns c = office_at _ _ _ c.self.view_is c.self.invariant
