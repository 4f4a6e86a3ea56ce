use Rattle.std.proofs.Common.{ap, sym, ◌∙◌}
use Rattle.ltm_diagram.specs.Limits.{limits_of}
use Rattle.ltm_network.specs.Network.{checked}
use Rattle.ltm_scenario.specs.Data.{ScenarioData}
use Rattle.ltm_scenario.proofs.Linked.{refused_by_network, refused_by_diagram}
use Rattle.ltm_scenario.proofs.scenario.Scenario.add_link.Goals as goal

pub returns-in-Err-clause-cause : goal.returns-in-Err-clause-cause
returns-in-Err-clause-cause c = λ _.
    refused_by_network c.args.self.now c.args.name c.args.tail c.args.head c.args.diagram c.in-Err.fault
    (ap (λ (v : ScenarioData). checked v.network c.args.name c.args.tail c.args.head) (sym c.self.view_is) ∙ sym c.in-Err.ensures)

pub returns-in-Err-limits-clause-cause : goal.returns-in-Err-limits-clause-cause
returns-in-Err-limits-clause-cause c = λ _.
    refused_by_diagram c.args.self.now c.args.name c.args.tail c.args.head c.args.diagram c.in-Err-limits.fault
    (ap (λ (v : ScenarioData). checked v.network c.args.name c.args.tail c.args.head) (sym c.self.view_is) ∙ sym c.in-Ok.ensures)
    (ap (λ (v : ScenarioData). limits_of c.args.diagram v.setup.step.0 v.setup.carry) (sym c.self.view_is) ∙ sym c.in-Err-limits.ensures.value)
