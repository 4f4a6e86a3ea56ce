use Rattle.std.proofs.Common.{ap, subst}
use Rattle.std.specs.Prelude.{IfOk}
use Rattle.ltm_scenario.specs.Data.{ScenarioData}
use Rattle.ltm_core.specs.Log.{Log}
use Rattle.ltm_session_editors.specs.Editing.{IsEditingText}
use Rattle.ltm_session_editors.proofs.editing.edit_scenario.Goals as goal

pub returns-in-Ok : goal.returns-in-Ok
returns-in-Ok g c =
    subst (λ (z : ScenarioData). IfOk c.edit_core.result (λ text. IsEditingText z c.args.scripts.items text.items)) (ap (λ (l : Log). l.opening) c.in-Ok.ensures.ok.log) c.edit_core.ensures
