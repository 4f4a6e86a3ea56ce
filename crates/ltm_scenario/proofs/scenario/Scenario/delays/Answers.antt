use Rattle.std.proofs.Common.{◌≡◌, ap, subst, ◌∙◌, slice_get, Some, Ok}
use Rattle.ltm_diagram.specs.Limits.{limits_of}
use Rattle.ltm_diagram.specs.Delays.{AreDelays}
use Rattle.ltm_scenario.specs.declared.diagrams.Pace.{Pace}
use Rattle.ltm_scenario.specs.Data.{ScenarioData}
use Rattle.ltm_scenario.proofs.scenario.Scenario.delays.Goals as goal

pub returns : goal.returns
returns c = λ diagram limits here is.
    let there : slice_get c.self.inside.parts.diagrams.diagrams c.args.link.0 ≡ Some diagram = ap (λ (v : ScenarioData). slice_get v.diagrams c.args.link.0) c.self.view_is ∙ here in
    let sets : limits_of diagram c.self.inside.parts.diagrams.pace.step.0 c.self.inside.parts.diagrams.pace.carry ≡ Ok limits =
    ap (λ (q : Pace). limits_of diagram q.step.0 q.carry) c.self.invariant.pace ∙ (ap (λ (v : ScenarioData). limits_of diagram v.setup.step.0 v.setup.carry) c.self.view_is ∙ is) in
    subst (λ (v : ScenarioData). AreDelays v.setup.step.0 limits c.delays.result) c.self.view_is
    (subst (λ (q : Pace). AreDelays q.step.0 limits c.delays.result) c.self.invariant.pace
    (c.delays.ensures.delays diagram limits there sets))
