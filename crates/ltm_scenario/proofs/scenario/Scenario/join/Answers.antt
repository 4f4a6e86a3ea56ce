use Rattle.std.proofs.Common.{◌≡◌, ◌<◌, ap, sym, subst, ◌∙◌, length, Ok, IsOk, arith}
use Rattle.std.specs.Result.{is_ok}
use Rattle.ltm_diagram.specs.Limits.{limits_of}
use Rattle.ltm_network.specs.Network.{checked, network_linked as linked_network}
use Rattle.ltm_network.specs.Names.{number_of}
use Rattle.ltm_scenario.specs.Build.{with_link_on, HasNoSplitAt}
use Rattle.ltm_scenario.specs.Data.{ScenarioData}
use Rattle.ltm_scenario.proofs.Linked.{room_for_link, is_network_linked}
use Rattle.ltm_scenario.proofs.Changed.{with_linked}
use Rattle.ltm_scenario.proofs.scenario.Scenario.join.Goals as goal

pub with_link-requires : goal.with_link-requires
with_link-requires c =
    let taken : checked c.self.inside.parts.network c.args.name c.args.tail c.args.head ≡ Ok tt = ap (λ (v : ScenarioData). checked v.network c.args.name c.args.tail c.args.head) c.self.view_is ∙ c.requires.taken in
    omega (arith, room_for_link c.self.inside.parts.network c.args.name c.args.tail c.args.head taken, c.self.invariant.scenario.network.most_is_small, c.self.invariant.scenario.entry.for_each)

pub with_link-requires-2 : goal.with_link-requires-2
with_link-requires-2 c =
    let taken : checked c.self.inside.parts.network c.args.name c.args.tail c.args.head ≡ Ok tt = ap (λ (v : ScenarioData). checked v.network c.args.name c.args.tail c.args.head) c.self.view_is ∙ c.requires.taken in
    omega (arith, room_for_link c.self.inside.parts.network c.args.name c.args.tail c.args.head taken, c.self.invariant.scenario.network.most_is_small, c.self.invariant.scenario.exit.for_each)

pub returns-clause-ok : goal.returns-clause-ok
returns-clause-ok c =
    let taken : checked c.self.inside.parts.network c.args.name c.args.tail c.args.head ≡ Ok tt = ap (λ (v : ScenarioData). checked v.network c.args.name c.args.tail c.args.head) c.self.view_is ∙ c.requires.taken in
    let free = subst (λ (v : ScenarioData). HasNoSplitAt v (number_of v.network.nodes c.args.tail)) (sym c.self.view_is) c.requires.free in
    let sets : IsOk (limits_of c.args.diagram c.self.inside.parts.setup.step.0 c.self.inside.parts.setup.carry) = ap is_ok (ap (λ (v : ScenarioData). limits_of c.args.diagram v.setup.step.0 v.setup.carry) c.self.view_is ∙ c.requires.limits) in
    (with_linked c.self.inside.parts c.args.name c.args.tail c.args.head c.args.diagram c.add_link.new.self c.push.new.self c.in_ok-entry.entry c.in_ok-exit.exit
    c.networks_stay_networks.ensures c.self.invariant taken free sets
    (is_network_linked c.self.inside.parts.network c.add_link.new.self c.args.name c.args.tail c.args.head taken c.in-Ok.ensures.ok)
    (c.push.ensures.pace ∙ c.in_ok-reserve.ensures.pace) (c.push.ensures.diagrams ∙ ap (λ ds. Rattle.std.proofs.Common.◌++◌ ds (Rattle.std.proofs.Common.◌∷◌ c.args.diagram Rattle.std.proofs.Common.[])) c.in_ok-reserve.ensures.diagrams)
    c.in_ok-entry.ensures.limits c.in_ok-entry.ensures.slots c.in_ok-exit.ensures.limits c.in_ok-exit.ensures.slots).0
    ∙ ap (λ (v : ScenarioData). with_link_on v (linked_network v.network c.args.name c.args.tail c.args.head) c.args.diagram) c.self.view_is

pub invariant_of-self-2 : goal.invariant_of-self-2
invariant_of-self-2 c =
    let taken : checked c.self.inside.parts.network c.args.name c.args.tail c.args.head ≡ Ok tt = ap (λ (v : ScenarioData). checked v.network c.args.name c.args.tail c.args.head) c.self.view_is ∙ c.requires.taken in
    let free = subst (λ (v : ScenarioData). HasNoSplitAt v (number_of v.network.nodes c.args.tail)) (sym c.self.view_is) c.requires.free in
    let sets : IsOk (limits_of c.args.diagram c.self.inside.parts.setup.step.0 c.self.inside.parts.setup.carry) = ap is_ok (ap (λ (v : ScenarioData). limits_of c.args.diagram v.setup.step.0 v.setup.carry) c.self.view_is ∙ c.requires.limits) in
    (with_linked c.self.inside.parts c.args.name c.args.tail c.args.head c.args.diagram c.add_link.new.self c.push.new.self c.in_ok-entry.entry c.in_ok-exit.exit
    c.networks_stay_networks.ensures c.self.invariant taken free sets
    (is_network_linked c.self.inside.parts.network c.add_link.new.self c.args.name c.args.tail c.args.head taken c.in-Ok.ensures.ok)
    (c.push.ensures.pace ∙ c.in_ok-reserve.ensures.pace) (c.push.ensures.diagrams ∙ ap (λ ds. Rattle.std.proofs.Common.◌++◌ ds (Rattle.std.proofs.Common.◌∷◌ c.args.diagram Rattle.std.proofs.Common.[])) c.in_ok-reserve.ensures.diagrams)
    c.in_ok-entry.ensures.limits c.in_ok-entry.ensures.slots c.in_ok-exit.ensures.limits c.in_ok-exit.ensures.slots).1
