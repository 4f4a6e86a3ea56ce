-- A scenario's data make a setting.
use Rattle.std.proofs.Common.{◌≡◌, ℕ, ◌+◌, ◌-◌, ◌^◌, ◌<◌, ◌≤◌, ◌==◌, true, List, length, get_or, slice_index, Option, Some, None, Result, Ok, Err, refl, ap, sym, subst, ◌∙◌, arith}
use Rattle.std.specs.Prelude.{All, IfSome, IsOk}
use Rattle.std.specs.Option.{option_map_or}
use Rattle.std.proofs.lemmas.Bool.{cases_lt}
use Rattle.std.proofs.lemmas.Bool.Decides.{nat_tests}
use Rattle.std.proofs.Common.{inl, inr}
use Rattle.std.proofs.lemmas.Option.{slice_get-get_or}
use Rattle.std.proofs.lemmas.Iterator.Adapters.{position_from-zero}
use Rattle.std.proofs.lemmas.List.Quantifiers.{position-Some}
use Rattle.std.proofs.lemmas.List.{get_or_past}
use Rattle.ltm_network.specs.Places.{HasPlaces}
use Rattle.ltm_diagram.specs.declared.diagram.Diagram.{Diagram}
use Rattle.ltm_diagram.specs.declared.diagram.Limits.{Limits}
use Rattle.ltm_diagram.specs.declared.diagram.DiagramFault.{DiagramFault}
use Rattle.ltm_diagram.specs.Limits.{limits_of}
use Rattle.ltm_diagram.specs.Passing.{capacity_in}
use Rattle.ltm_diagram.specs.InRange.{AreInRange, LimitsInRange}
use Rattle.ltm_diagram.proofs.Passing.{either_in}
use Rattle.ltm_demand.specs.declared.row.DemandRow.{DemandRow}
use Rattle.ltm_demand.specs.Produced.{by_end}
use Rattle.ltm_splits.specs.Weights.{AreWeights}
use Rattle.ltm_splits.specs.Rows.{row_in_force}
use Rattle.ltm_scenario.specs.Data.{ScenarioData}
use Rattle.ltm_scenario.specs.IsScenario.{IsScenario}
use Rattle.ltm_scenario.specs.Reads.{destination_of}
use Rattle.ltm_loading.specs.Setting.{IsSetting}
use Rattle.ltm_setting.specs.Setting.{or_no_limits, set_by, limits_at, produced_by, setting_of}
use Rattle.ltm_setting.proofs.InForce.{in_force}

-- what is said of the limits that a diagram sets holds of the limits that are read
set_limits : (P : Limits → Type 0) (r : Result Limits DiagramFault) → IsOk r → ((limits : Limits) → r ≡ Ok limits → P limits) → P (or_no_limits r)
set_limits P (Ok limits) is h = h limits refl
set_limits P (Err fault) is h = cc

-- the limits of each link are in range
limits_in_range : (s : ScenarioData) → LimitsInRange → IsScenario s → (l : ℕ) → l < length s.network.links → AreInRange s.setup.step.0 (limits_at s l)
limits_in_range s ranges is l below =
    let d : Diagram = record { length_m = 0; free_kmh = 0; wave_kmh = 0; jam_per_km = 0 } in
    let there : l < length s.diagrams = omega (arith, is.diagram_for_each) in
    subst (λ (o : Option Diagram). AreInRange s.setup.step.0 (set_by s.setup.step.0 s.setup.carry o)) (sym (slice_get-get_or s.diagrams l d there))
    (set_limits (AreInRange s.setup.step.0) (limits_of (get_or s.diagrams l d) s.setup.step.0 s.setup.carry) (is.limits l d there) (λ limits e. ranges (get_or s.diagrams l d) s.setup.step.0 s.setup.carry limits e))

-- no slot passes more than a thousandth above another
even : (limits : Limits) (t k : ℕ) → limits.rest < limits.whole → capacity_in limits t ≤ capacity_in limits k + 1
even limits t k small =
    elim (either_in limits t small) [
      | inl one ↦ elim (either_in limits k small) [ inl other ↦ omega (arith, one, other) | inr other ↦ omega (arith, one, other.0) ]
      | inr one ↦ elim (either_in limits k small) [ inl other ↦ omega (arith, one.0, other) | inr other ↦ omega (arith, one.0, other.0) ]
    ]

same_node : (n u : ℕ) → (n == u) ≡ true → n ≡ u
same_node n u h = grind (arith, nat_tests)

-- a node's destination is where the node stands
own_there : (s : ScenarioData) (u d : ℕ) → destination_of s.destinations u ≡ Some d → (d < length s.destinations) × (slice_index s.destinations d ≡ u)
own_there s u d e =
    let there = position-Some (λ node. node == u) s.destinations d 0 (position_from-zero (λ node. node == u) s.destinations ∙ e) in
    (there.0, same_node (slice_index s.destinations d) u there.1)

pub first : (rows : List DemandRow) (u d k : ℕ) → k ≡ 0 → produced_by rows u d k ≡ 0
first rows u d k h = grind (arith, nat_tests)

pub later : (rows : List DemandRow) (u d k : ℕ) → 0 < k → produced_by rows u d k ≡ by_end rows u d (k - 1)
later rows u d k h = grind (arith, nat_tests)

-- by the boundary at a slot's end it is what was produced by the slot's end
pub by_next : (rows : List DemandRow) (u d t : ℕ) → produced_by rows u d (t + 1) ≡ by_end rows u d t
by_next rows u d t = let back : t + 1 - 1 ≡ t = omega arith in later rows u d (t + 1) (omega arith) ∙ ap (by_end rows u d) back

-- what was produced does not fall
produced_rises : (rows : List DemandRow) (u d k : ℕ) → ((rows : List DemandRow) (o d s t : ℕ) → s ≤ t → by_end rows o d s ≤ by_end rows o d t) → produced_by rows u d k ≤ produced_by rows u d (k + 1)
produced_rises rows u d k rises =
    elim (cases_lt 0 k) [
      | inl some ↦ omega (arith, later rows u d k some, later rows u d (k + 1) (omega arith), rises rows u d (k - 1) (k + 1 - 1) (omega arith))
      | inr none ↦ omega (arith, first rows u d k (omega arith))
    ]

small_weight : (ws : List ℕ) (j : ℕ) → All (λ w. w < 2 ^ 32) ws → slice_index ws j ≤ 4294967295
small_weight ws j all =
    elim (cases_lt j (length ws)) [
      | inl there ↦ let h : get_or ws j 0 < 2 ^ 32 = all j 0 there in omega arith
      | inr past ↦ omega (arith, get_or_past ws j 0 past)
    ]

small_in_force : (o : Option (List ℕ)) (j : ℕ) → IfSome o (All (λ w. w < 2 ^ 32)) → option_map_or (λ ws. slice_index ws j) o 0 ≤ 4294967295
small_in_force None j h = omega arith
small_in_force (Some ws) j h = small_weight ws j h

pub is_setting : (s : ScenarioData) → HasPlaces s.network → LimitsInRange → ((rows : List DemandRow) (o d s t : ℕ) → s ≤ t → by_end rows o d s ≤ by_end rows o d t) → IsScenario s → IsSetting (setting_of s)
unfolding setting_of
is_setting s places ranges rises is =
    let limits : (l : ℕ) → l < length s.network.links → AreInRange s.setup.step.0 (limits_at s l) = limits_in_range s ranges is in
    record {
      network = record {
        head_is_node = is.network.head_is_node;
        in_place_below = places.in_place_below;
        in_link_at = places.in_link_at;
        in_link_is_link = λ u i x. places.in_link_is_link u i;
        in_link_ends = λ u i x. places.in_link_ends u i;
        in_place_of = λ u i x. places.in_place_of u i;
        tail_is_node = is.network.tail_is_node;
        out_place_below = places.out_place_below;
        out_link_at = places.out_link_at;
        out_link_is_link = λ u j x. places.out_link_is_link u j;
        out_link_starts = λ u j x. places.out_link_starts u j;
        out_place_of = λ u j x. places.out_place_of u j;
        place_is_node = λ d x. is.destinations_are_nodes d 0 x;
        own_at = is.destinations_apart;
        own_is_destination = λ u d x e. (own_there s u d e).0;
        own_place = λ u d x e. (own_there s u d e).1;
      };
      small = record {
        few_slots = is.setup.slots_most;
        few_ins = λ u x. is.network.few_in u;
        few_outs = λ u x. is.network.few_out u;
        few_destinations = omega (arith, is.few_destinations, is.setup.destinations_most);
        capacities = λ l t x. (limits l x).slot_most t;
        origin_capacity = is.setup.capacity_most;
        weights = λ u d t j x m y z. small_in_force (row_in_force s.splits u d t) j (in_force (λ row. AreWeights row.1) (All (λ w. w < 2 ^ 32)) s.splits u d t (λ row have test. have.2) is.weights);
      };
      some_step = is.setup.step_least;
      some_capacity = λ l t x. (limits l x).slot_least t;
      even_capacity = λ l t k x. even (limits_at s l) t k (limits l x).rest;
      some_origin_capacity = is.setup.capacity_least;
      free_time = λ l x. (limits l x).free_least;
      wave_time = λ l x. (limits l x).wave_least;
      produced_none = λ u d x m. refl;
      produced_rises = λ u x d k m y. produced_rises s.demand u d k rises;
    }
