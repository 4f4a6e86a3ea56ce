use Rattle.std.proofs.Common.{◌∙◌, ap}
use Rattle.ltm_core.specs.Cores.{CoreData}
use Rattle.ltm_session_editors.proofs.Told.{if_ok, editing_told}
use Rattle.ltm_session_editors.proofs.editing.edit_core.Goals as goal

pub returns-in-Ok : goal.returns-in-Ok
returns-in-Ok g c =
    let office = c.edit_office-office.result.0 in
    let opens = c.edit_office-office.ensures.opening ∙ ap (λ (d : CoreData). d.log.opening) c.create-office.ensures.core in
    let calls = rw c.in-Ok.is at c.edit_office-office.ensures.calls in
    if_ok c.report.result _ _ (λ text told. editing_told c.args.core.log.opening c.args.scripts.items office.core office.history text.items opens c.facts.ensures calls told) c.report.ensures
