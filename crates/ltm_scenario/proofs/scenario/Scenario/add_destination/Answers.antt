use Rattle.std.proofs.Common.{◌<◌, length, sym, subst}
use Rattle.ltm_scenario.specs.Data.{ScenarioData}
use Rattle.ltm_scenario.proofs.Changed.{with_added}
use Rattle.ltm_scenario.proofs.scenario.Scenario.add_destination.Goals as goal

pub invariant_of-self : goal.invariant_of-self
invariant_of-self c =
    with_added c.self.inside.parts c.args.node.0 c.add.new.self c.self.invariant
    (subst (λ (v : ScenarioData). c.args.node.0 < length v.network.nodes) (sym c.self.view_is) c.requires)
    c.in-Ok.ensures.ok
