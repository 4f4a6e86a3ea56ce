-- A case with links along roads.
use Rattle.std.proofs.Common.{◌≡◌, ℕ, ◌<◌, ◌≤◌, List, [], ◌∷◌, ◌++◌, length, take, refl, sym, ap, subst, ◌∙◌, Ok}
use Rattle.ltm_network.specs.Network.{NetworkData, empty_network, checked}
use Rattle.ltm_scenario.specs.Data.{ScenarioData, empty_scenario}
use Rattle.ltm_units.specs.Bounds.{default_links}
use Rattle.ltm_make.specs.declared.grid.Road.{Road}
use Rattle.ltm_make.specs.declared.making.Making.{Making}
use Rattle.ltm_make.specs.Names.{name_of_node, name_of_link}
use Rattle.ltm_make.specs.Grid.{roads}
use Rattle.ltm_make.specs.Links.{with_road, with_roads, TakesLinks, made_setup}
use Rattle.ltm_make.specs.Roads.{road_at, network_along, IsAlong}
use Rattle.ltm_make.proofs.Along.{along_none, along}
use Rattle.ltm_make.proofs.Taken.{next_is_taken}
use Rattle.ltm_make.proofs.Gridding.{roads_below, next_road}

pub network_made : (m : Making) (list : List Road) → (with_roads m list).scenario.network ≡ network_along m.scenario.network list
network_made m [] = refl
network_made m (r ∷ list) = network_made (with_road m r) list

pub still_bare : (m : Making) (list : List Road) → TakesLinks m.scenario → TakesLinks (with_roads m list).scenario
still_bare m [] h = h
still_bare m (r ∷ list) h = still_bare (with_road m r) list (record { no_splits = h.no_splits; step = h.step; carry = h.carry })

pub one_road_more : (m : Making) (list : List Road) (r : Road) → with_roads m (list ++ r ∷ []) ≡ with_road (with_roads m list) r
one_road_more m [] r = refl
one_road_more m (x ∷ list) r = one_road_more (with_road m x) list r

pub bare_at_first : (s : ScenarioData) → s ≡ empty_scenario made_setup → TakesLinks s
bare_at_first s e = subst TakesLinks (sym e) (record { no_splits = refl; step = refl; carry = refl })

-- its links lead along them
pub made_along : (m : Making) (list : List Road) → m.scenario ≡ empty_scenario made_setup → IsAlong (with_roads m list).scenario.network list
made_along m list e =
    let start : m.scenario.network ≡ empty_network default_links = ap (λ (s : ScenarioData). s.network) e in
    subst (λ (d : NetworkData). IsAlong d list) (sym (network_made m list ∙ ap (λ (d : NetworkData). network_along d list) start))
    (along (empty_network default_links) [] list along_none)

-- and the next one of a grid is taken
pub grid_taken : (m : Making) (nodes width i : ℕ) → m.scenario ≡ empty_scenario made_setup → nodes ≤ 400 → 1 ≤ width → i < length (roads nodes width nodes) →
    let d = (with_roads m (take i (roads nodes width nodes))).scenario.network in
    let r = road_at (roads nodes width nodes) i in
    checked d (name_of_link (length d.links)) (name_of_node r.from) (name_of_node r.to) ≡ Ok tt
grid_taken m nodes width i e few some l =
    next_is_taken (with_roads m (take i (roads nodes width nodes))).scenario.network (take i (roads nodes width nodes)) (road_at (roads nodes width nodes) i)
    (made_along m (take i (roads nodes width nodes)) e)
    (roads_below nodes width i few some)
    (next_road nodes width i few some l)
