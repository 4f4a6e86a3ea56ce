use Rattle.std.proofs.Common.{◌≡◌, Ok, sym, ap, subst, ◌∙◌}
use Rattle.ltm_scenario.specs.Data.{ScenarioData}
use Rattle.ltm_scenario.specs.Valid.{IsValid}
use Rattle.ltm_scenario.specs.Horizon.{MayReach}
use Rattle.ltm_scenario.specs.Edits.{edited_from, horizon_after}
use Rattle.ltm_scenario.specs.Parts.{scenario_in}
use Rattle.ltm_scenario.proofs.Batches.{batch_keeps_valid}
use Rattle.ltm_scenario.proofs.Reaching.{batch_reaches}
use Rattle.ltm_scenario.proofs.scenario.Scenario.accept.Goals as goal

pub returns-in-Ok-clause-valid : goal.returns-in-Ok-clause-valid
returns-in-Ok-clause-valid c =
    batch_keeps_valid 1 (scenario_in c.self.inside.parts) (scenario_in c.accept_from.new.self) c.edits-edits.result.now c.in-Ok.ensures.ok (subst IsValid (sym c.self.view_is) c.requires.valid)

pub returns-in-Ok-clause-reach : goal.returns-in-Ok-clause-reach
returns-in-Ok-clause-reach c =
    let edited : edited_from 1 (scenario_in c.self.inside.parts) c.args.batch.now ≡ Ok (scenario_in c.accept_from.new.self) = ap (edited_from 1 (scenario_in c.self.inside.parts)) (sym c.edits-edits.ensures.edits) ∙ c.in-Ok.ensures.ok in
    subst (λ (s : ScenarioData). MayReach s (horizon_after s.setup.slots c.args.batch.now)) c.self.view_is
    (batch_reaches 1 (scenario_in c.self.inside.parts) (scenario_in c.accept_from.new.self) c.args.batch.now edited (subst IsValid (sym c.self.view_is) c.requires.valid) c.accept_from.ensures.parts.scenario)
