-- The routes of a scenario are the only ones.
use Rattle.std.proofs.Common.{◌≡◌, ℕ, ◌<◌, ◌↔◌, Bool, true, false, List, length, Option, Some, None, refl, ap, sym, subst, ◌∙◌}
use Rattle.std.proofs.lemmas.List.{ext_get_or}
use Rattle.ltm_units.specs.declared.quantities.Millis.{Millis}
use Rattle.ltm_scenario.specs.Data.{ScenarioData}
use Rattle.ltm_scenario.specs.Reads.{destination_node}
use Rattle.ltm_routes.specs.Roads.{Roads, roads_of}
use Rattle.ltm_routes.specs.Routes.{IsLeastTime}
use Rattle.ltm_routes.specs.Potentials.{potential_at}
use Rattle.ltm_search.specs.Search.{millis}
use Rattle.ltm_routes.specs.Split.{RoutesData, AreRoutes, AreAllRoutes, routes_to, no_routes, begins_at}
use Rattle.ltm_routes.proofs.Flags.{least_is}

same_time : (r : Roads) (from to : ℕ) (a b : Option Millis) → IsLeastTime r from to a → IsLeastTime r from to b → a ≡ b
same_time r from to None None x y = refl
same_time r from to None (Some t) x y = let t' = y.taken in absurd (x t'.0 t'.1)
same_time r from to (Some t) None x y = let t' = x.taken in absurd (y t'.0 t'.1)
same_time r from to (Some t) (Some u) x y = ap (λ n. Some (millis n)) (least_is r from to t.0 u.0 x y)

pub same_flag : {P : Type 0} (a b : Bool) → (a ≡ true) ↔ P → (b ≡ true) ↔ P → a ≡ b
same_flag true true x y = refl
same_flag true false x y = sym (y.1 (x.0 refl))
same_flag false true x y = x.1 (y.0 refl)
same_flag false false x y = refl

same_routes : (r : Roads) (to : ℕ) (a b : RoutesData) → AreRoutes r to a → AreRoutes r to b → a ≡ b
same_routes r to a b x y =
    let p : a.potentials ≡ b.potentials = ext_get_or None a.potentials b.potentials (x.potential_for_each ∙ sym y.potential_for_each)
    (λ i low. let there : i < r.nodes = subst (λ n. i < n) x.potential_for_each low in same_time r i to (potential_at a.potentials i) (potential_at b.potentials i) (x.least i there) (y.least i there)) in
    let f : a.begins ≡ b.begins = ext_get_or false a.begins b.begins (x.flag_for_each ∙ sym y.flag_for_each)
    (λ i low. let there : i < r.links = subst (λ n. i < n) x.flag_for_each low in same_flag (begins_at a i) (begins_at b i) (x.begin i there) (y.begin i there)) in
    λ i. record { potentials = p i; begins = f i }

pub all_one : (s : ScenarioData) (a b : List RoutesData) → AreAllRoutes s a → AreAllRoutes s b → a ≡ b
all_one s a b x y =
    ext_get_or no_routes a b (x.routes_for_each ∙ sym y.routes_for_each)
    (λ d low. let there : d < length s.destinations = subst (λ n. d < n) x.routes_for_each low in
    same_routes (roads_of s) (destination_node s d) (routes_to a d) (routes_to b d) (x.routes d there) (y.routes d there))
