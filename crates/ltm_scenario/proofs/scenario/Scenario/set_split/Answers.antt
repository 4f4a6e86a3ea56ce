use Rattle.std.proofs.Common.{sym, subst}
use Rattle.ltm_splits.specs.Rows.{key_of}
use Rattle.ltm_scenario.specs.Data.{ScenarioData}
use Rattle.ltm_scenario.specs.IsScenario.{IsSplitOf}
use Rattle.ltm_scenario.proofs.Changed.{with_split_row}
use Rattle.ltm_scenario.proofs.scenario.Scenario.set_split.Goals as goal

pub invariant_of-self : goal.invariant_of-self
invariant_of-self c =
    with_split_row c.self.inside.parts c.set.new.self (key_of c.args.node.0 c.args.destination c.args.from) c.args.weights.now c.self.invariant
    (subst (λ (v : ScenarioData). IsSplitOf v (key_of c.args.node.0 c.args.destination c.args.from, c.args.weights.now)) (sym c.self.view_is) c.requires)
    c.in-Ok.ensures.ok c.set.ensures.have_weights
