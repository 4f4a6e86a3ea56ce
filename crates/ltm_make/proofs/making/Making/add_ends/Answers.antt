use Rattle.std.proofs.Common.{◌≡◌, ◌∙◌, ◌-◌, ◌++◌, ◌∷◌, [], ℕ, List, ap, arith, length, length-append, subst, sym}
use Rattle.ltm_network.specs.Network.{NetworkData}
use Rattle.ltm_scenario.specs.declared.setup.Setup.{Setup}
use Rattle.ltm_scenario.specs.Data.{ScenarioData}
use Rattle.ltm_scenario.specs.Reads.{destination_of}
use Rattle.ltm_make.specs.Branches.{number}
use Rattle.ltm_make.specs.Splits.{IsFound}
use Rattle.ltm_make.proofs.Roading.{node_found, some_width, few_width}
use Rattle.ltm_make.proofs.Laying.{ends_apart}
use Rattle.ltm_make.proofs.making.Making.add_ends.Goals as goal

pub node_at-requires : goal.node_at-requires
node_at-requires c =
    subst (λ (d : NetworkData). IsFound d 0) (sym c.network.ensures)
    (node_found c.args.self.now.scenario.network c.args.grid.nodes c.args.grid.width 0 c.requires.grid c.requires.along (omega (arith, c.requires.grid.some)))

pub node_at-requires-2 : goal.node_at-requires-2
node_at-requires-2 c =
    subst (λ (d : NetworkData). IsFound d (c.args.grid.width - 1)) (sym c.network-2.ensures)
    (node_found c.args.self.now.scenario.network c.args.grid.nodes c.args.grid.width (c.args.grid.width - 1) c.requires.grid c.requires.along
    (omega (arith, some_width c.args.grid.nodes c.args.grid.width c.requires.grid, few_width c.args.grid.nodes c.args.grid.width c.requires.grid)))

pub add_end-requires-2-clause-new : goal.add_end-requires-2-clause-new
add_end-requires-2-clause-new c =
    let d : NetworkData = c.args.self.now.scenario.network in
    let ends : c.add_end.new.scenario.destinations ≡ number c.args.self.now.scenario.network 0 ∷ [] =
    ap (λ (s : ScenarioData). s.destinations) c.in_ok-add_end.ensures
    ∙ (ap (λ (list : List ℕ). list ++ c.in_ok-first.first.0 ∷ []) c.requires.none
    ∙ ap (λ (u : ℕ). u ∷ []) (c.in_ok-first.ensures.number ∙ ap (λ (n : NetworkData). number n 0) c.network.ensures)) in
    ap (λ (list : List ℕ). destination_of list c.in_ok-second.second.0) ends
    ∙ (ap (λ (u : ℕ). destination_of (number c.args.self.now.scenario.network 0 ∷ []) u) (c.in_ok-second.ensures.number ∙ ap (λ (n : NetworkData). number n (c.args.grid.width - 1)) c.network-2.ensures)
    ∙ ends_apart c.args.self.now.scenario.network c.args.grid.nodes c.args.grid.width c.requires.grid c.requires.along)

pub add_end-requires-clause-few : goal.add_end-requires-clause-few
add_end-requires-clause-few c =
    omega (arith, ap (λ (list : List ℕ). length list) c.requires.none, ap (λ (z : Setup). z.most_destinations) c.requires.setup)

pub add_end-requires-2-clause-few : goal.add_end-requires-2-clause-few
add_end-requires-2-clause-few c =
    omega (
      arith,
      ap (λ (s : ScenarioData). length s.destinations) c.in_ok-add_end.ensures,
      length-append c.args.self.now.scenario.destinations (c.in_ok-first.first.0 ∷ []),
      ap (λ (list : List ℕ). length list) c.requires.none,
      ap (λ (s : ScenarioData). s.setup.most_destinations) c.in_ok-add_end.ensures,
      ap (λ (z : Setup). z.most_destinations) c.requires.setup,
    )
