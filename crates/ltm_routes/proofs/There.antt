-- The routes of a scenario are those that are reckoned.
use Rattle.std.proofs.Common.{◌≡◌, ℕ, ◌+◌, ◌<◌, ◌↔◌, Bool, true, false, List, length, map, Option, Some, None, refl, ap, sym, subst, arith, ◌∙◌}
use Rattle.std.specs.List.{range_with_len}
use Rattle.std.proofs.lemmas.List.{ext_get_or}
use Rattle.std.proofs.lemmas.List.FromFn.{length-map-range_with_len, get_or-map-range_with_len}
use Rattle.ltm_units.specs.declared.quantities.Millis.{Millis}
use Rattle.ltm_diagram.specs.InRange.{LimitsInRange}
use Rattle.ltm_scenario.specs.Data.{ScenarioData}
use Rattle.ltm_scenario.specs.IsScenario.{IsScenario}
use Rattle.ltm_scenario.specs.Reads.{destination_node}
use Rattle.ltm_routes.specs.Roads.{Roads, AreRoads, roads_of}
use Rattle.ltm_routes.specs.Potentials.{potential_at, is_tight_over}
use Rattle.ltm_routes.specs.Split.{RoutesData, AreRoutes, AreAllRoutes, routes_to, no_routes, begins_at}
use Rattle.ltm_routes.specs.Least.{least_times_of, routes_over, routes_of}
use Rattle.ltm_routes.specs.Missing.{all_routes_of}
use Rattle.ltm_routes.proofs.Kept.{are_roads}
use Rattle.ltm_routes.proofs.One.{same_flag}
use Rattle.ltm_routes.proofs.Flags.{tight_begins, begins_tight}
use Rattle.ltm_routes.proofs.Least.{least_are}

tight_is : (r : Roads) (to link : ℕ) (a : RoutesData) → AreRoads r → AreRoutes r to a → link < r.links → begins_at a link ≡ is_tight_over r a.potentials link
tight_is r to link a roads x low =
    let from_tail = x.least (r.tail link) (roads.tails link low) in
    let from_head = x.least (r.head link) (roads.heads link low) in
    same_flag (begins_at a link) (is_tight_over r a.potentials link) (x.begin link low) (
      tight_begins r to link (potential_at a.potentials (r.tail link)) (potential_at a.potentials (r.head link)) from_tail from_head,
      begins_tight r to link (potential_at a.potentials (r.tail link)) (potential_at a.potentials (r.head link)) from_tail from_head,
    )

pub routes_are : (r : Roads) (to : ℕ) (a : RoutesData) → AreRoads r → AreRoutes r to a → a ≡ routes_over r to
routes_are r to a roads x =
    let p : a.potentials ≡ least_times_of r to = least_are r a.potentials to roads x.least x.potential_for_each in
    let f : a.begins ≡ map (is_tight_over r a.potentials) (range_with_len 0 r.links) = ext_get_or false a.begins _ (x.flag_for_each ∙ sym (length-map-range_with_len (is_tight_over r a.potentials) 0 r.links))
    (λ i low. let there : i < r.links = subst (λ n. i < n) x.flag_for_each low in
    tight_is r to i a roads x there ∙ sym (get_or-map-range_with_len (is_tight_over r a.potentials) 0 r.links i i false there (omega arith))) in
    let flags : a.begins ≡ map (is_tight_over r (least_times_of r to)) (range_with_len 0 r.links) = f ∙ ap (λ q. map (is_tight_over r q) (range_with_len 0 r.links)) p in
    λ i. record { potentials = p i; begins = flags i }

pub routes_here : (s : ScenarioData) (d : ℕ) (a : RoutesData) → AreRoads (roads_of s) → AreRoutes (roads_of s) (destination_node s d) a → a ≡ routes_of s d
unfolding routes_of
routes_here s d a roads x = routes_are (roads_of s) (destination_node s d) a roads x

pub all_are : (s : ScenarioData) (all : List RoutesData) → AreRoads (roads_of s) → AreAllRoutes s all → all ≡ all_routes_of s
all_are s all roads x =
    ext_get_or no_routes all (all_routes_of s) (x.routes_for_each ∙ sym (length-map-range_with_len (routes_of s) 0 (length s.destinations)))
    (λ d low. let there : d < length s.destinations = subst (λ n. d < n) x.routes_for_each low in
    routes_here s d (routes_to all d) roads (x.routes d there) ∙ sym (get_or-map-range_with_len (routes_of s) 0 (length s.destinations) d d no_routes there (omega arith)))

pub all_there : LimitsInRange → (s : ScenarioData) (all : List RoutesData) → IsScenario s → AreAllRoutes s all → all ≡ all_routes_of s
all_there in_range s all is x = all_are s all (are_roads s in_range is) x
