use Rattle.std.proofs.Common.{◌≡◌, ℕ, ◌+◌, List, [], ◌∷◌, ◌++◌, length, take, sym, ap, subst, ◌∙◌, arith, Ok}
use Rattle.std.proofs.lemmas.List.{take_more}
use Rattle.ltm_network.specs.Network.{checked}
use Rattle.ltm_make.specs.declared.grid.Road.{Road}
use Rattle.ltm_make.specs.declared.making.Making.{Making}
use Rattle.ltm_make.specs.Names.{name_of_node, name_of_link}
use Rattle.ltm_make.specs.Grid.{roads}
use Rattle.ltm_make.specs.Links.{with_road, with_roads, TakesLinks}
use Rattle.ltm_make.specs.Roads.{no_road, road_at}
use Rattle.ltm_make.proofs.GridMade.{still_bare, one_road_more, bare_at_first, grid_taken}
use Rattle.ltm_make.proofs.making.Making.add_grid.Goals as goal

abbrev IsTaken : Making → Road → Type 0
IsTaken m r = checked m.scenario.network (name_of_link (length m.scenario.network.links)) (name_of_node r.from) (name_of_node r.to) ≡ Ok tt

pub add_road-requires-clause-bare : goal.add_road-requires-clause-bare
add_road-requires-clause-bare c =
    subst (λ (m : Making). TakesLinks m.scenario) (sym c.loop-road.invariant)
    (still_bare c.args.self.now (take c.loop-road.road-index c.deref-road-items.result.now) (bare_at_first c.args.self.now.scenario c.requires.fresh))

pub add_road-requires-clause-taken : goal.add_road-requires-clause-taken
add_road-requires-clause-taken c =
    let items : List Road = c.deref-road-items.result.now in
    let i : ℕ = c.loop-road.road-index in
    let all : c.deref-road-items.result.now ≡ roads c.args.nodes c.args.width c.args.nodes = c.deref-road-items.ensures.value ∙ c.in_ok-roads.ensures in
    subst (λ (m : Making). IsTaken m (road_at c.deref-road-items.result.now c.loop-road.road-index)) (sym c.loop-road.invariant)
    (subst (λ (list : List Road). IsTaken (with_roads c.args.self.now (take c.loop-road.road-index list)) (road_at list c.loop-road.road-index)) (sym all)
    (grid_taken c.args.self.now c.args.nodes c.args.width c.loop-road.road-index c.requires.fresh c.requires.few c.requires.some (omega (arith, ap length all))))

pub loop-road-preserved : goal.loop-road-preserved
loop-road-preserved c =
    let items : List Road = c.deref-road-items.result.now in
    let more : take (c.loop-road.road-index + 1) c.deref-road-items.result.now ≡ take c.loop-road.road-index c.deref-road-items.result.now ++ road_at c.deref-road-items.result.now c.loop-road.road-index ∷ [] =
    take_more c.deref-road-items.result.now c.loop-road.road-index no_road c.loop-road-test.true in
    c.in_ok-add_road.ensures
    ∙ (ap (λ (m : Making). with_road m (road_at c.deref-road-items.result.now c.loop-road.road-index)) c.loop-road.invariant
    ∙ (sym (one_road_more c.args.self.now (take c.loop-road.road-index c.deref-road-items.result.now) (road_at c.deref-road-items.result.now c.loop-road.road-index))
    ∙ ap (with_roads c.args.self.now) (sym more)))
