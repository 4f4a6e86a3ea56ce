use Rattle.std.proofs.Common.{ap, sym, subst, ◌∙◌}
use Rattle.ltm_editors.specs.History.{IsLegalHistory}
use Rattle.ltm_editors.specs.Offices.{OfficeData, opening_of}
use Rattle.ltm_editors.proofs.Legal.{office_at}
use Rattle.ltm_editors.proofs.office.Office.calls.Goals as goal

pub returns-clause-calls : goal.returns-clause-calls
returns-clause-calls c = c.deref.ensures.value ∙ ap (λ (o : OfficeData). o.history) c.self.view_is

pub returns-clause-legal : goal.returns-clause-legal
returns-clause-legal c = subst (λ l. IsLegalHistory (opening_of c.args.self.now) l) (sym (c.deref.ensures.value ∙ ap (λ (o : OfficeData). o.history) c.self.view_is))
    (office_at _ _ _ c.self.view_is c.self.invariant).legal
