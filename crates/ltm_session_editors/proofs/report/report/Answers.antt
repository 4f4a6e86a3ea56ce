use Rattle.std.proofs.Common.{ap}
use Rattle.ltm_core.specs.Cores.{CoreData}
use Rattle.ltm_session_editors.proofs.Told.{if_ok, tells_history}
use Rattle.ltm_session_editors.proofs.report.report.Goals as goal

pub returns-in-Ok : goal.returns-in-Ok
returns-in-Ok c =
    if_ok c.finish-text.result _ _
    (λ text told. tells_history c.args.office.core c.into_core-core.result.log c.args.office.history c.calls.result.now c.in-Ok.lines.items text.items (ap (λ (d : CoreData). d.log) c.into_core-core.ensures) c.facts.ensures c.in-Ok.ensures
    c.calls.ensures.calls told)
    c.finish-text.ensures
