use Rattle.std.proofs.Common.{subst}
use Rattle.std.specs.Prelude.{IfOk}
use Rattle.ltm_scenario.specs.Data.{ScenarioData}
use Rattle.ltm_try_command.specs.Trial.{TellsTrial}
use Rattle.ltm_try_command.proofs.trial.report_made.Goals as goal

pub returns-in-Ok : goal.returns-in-Ok
returns-in-Ok c =
    subst (λ (z : ScenarioData). IfOk c.report_and_let_go.result (λ text. TellsTrial z c.args.made.batch text.items)) c.in-Ok.ensures.ok.scenario c.report_and_let_go.ensures
