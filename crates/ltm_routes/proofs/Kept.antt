-- What the roads of every scenario keep.
use Rattle.std.proofs.Common.{◌≡◌, ℕ, ◌<◌, ◌≤◌, Bool, length, Some, Ok, Err, Result, slice_get, slice_index_or, IsOk, ap, sym, refl, subst, arith, ◌∙◌}
use Rattle.std.specs.Option.{option_map_or}
use Rattle.std.proofs.lemmas.Option.{slice_get-get_or}
use Rattle.ltm_units.specs.Results.{refuse, ◌>>>◌}
use Rattle.ltm_diagram.specs.declared.diagram.Diagram.{Diagram}
use Rattle.ltm_diagram.specs.declared.diagram.Limits.{Limits}
use Rattle.ltm_diagram.specs.declared.diagram.DiagramFault.{DiagramFault}
use Rattle.ltm_diagram.specs.declared.diagram.DiagramFault.TheVariants.{StepTooLong, NoCapacity, CapacityOver}
use Rattle.ltm_diagram.specs.declared.diagram.Field.TheVariants.{Length, Free, Wave, Jam}
use Rattle.std.specs.Prelude.{nat_lt, ◌||◌, ◌==◌}
use Rattle.ltm_diagram.specs.Limits.{limits_of, field_in_range, free_flow_time, wave_time, capacity_of, most_of}
use Rattle.ltm_diagram.specs.InRange.{LimitsInRange, AreInRange}
use Rattle.ltm_scenario.specs.Data.{ScenarioData}
use Rattle.ltm_scenario.specs.IsScenario.{IsScenario}
use Rattle.ltm_routes.specs.Roads.{AreRoads, roads_of}

-- limits, where there are any, have that free-flow time
abbrev HasFree : ℕ → Result Limits DiagramFault → Type 0
HasFree time (Ok limits) = limits.free_ms ≡ time
HasFree time (Err fault) = Unit {0}

then_free : (time : ℕ) (r : Result (Unit {0}) DiagramFault) (next : Result Limits DiagramFault) → HasFree time next → HasFree time (r >>> next)
then_free time (Ok u) next has = has
then_free time (Err fault) next has = tt

has_free : (d : Diagram) (step : ℕ) (carry : Bool) → HasFree (free_flow_time d) (limits_of d step carry)
unfolding limits_of
has_free d step carry =
    let t : ℕ = free_flow_time d in
    then_free t (field_in_range Length 1000000 d.length_m) _ (then_free t (field_in_range Free 1000 d.free_kmh) _ (then_free t (field_in_range Wave 1000 d.wave_kmh) _ (then_free t (field_in_range Jam 10000 d.jam_per_km) _
    (then_free t (refuse (nat_lt (free_flow_time d) step || nat_lt (wave_time d) step) (StepTooLong (free_flow_time d) (wave_time d))) _
    (then_free t (refuse (capacity_of d step == 0) NoCapacity) _ (then_free t (refuse (nat_lt 32000 (most_of d step carry)) CapacityOver) _ refl))))))

-- the free-flow time that a diagram's limits tell is that of the diagram
pub free_is : (d : Diagram) (step : ℕ) (carry : Bool) (limits : Limits) → limits_of d step carry ≡ Ok limits → limits.free_ms ≡ free_flow_time d
free_is d step carry limits is = subst (HasFree (free_flow_time d)) is (has_free d step carry)

pub free_time_is : (s : ScenarioData) (link : ℕ) (d : Diagram) (limits : Limits) → slice_get s.diagrams link ≡ Some d → limits_of d s.setup.step.0 s.setup.carry ≡ Ok limits
    → limits.free_ms ≡ (roads_of s).free_time link
free_time_is s link d limits there is = free_is d s.setup.step.0 s.setup.carry limits is ∙ sym (ap (λ o. option_map_or free_flow_time o 0) there)

was_ok : {A F : Type 0} (r : Result A F) → IsOk r → (x : A) × (r ≡ Ok x)
was_ok (Ok x) is = (x, refl)
was_ok (Err fault) is = cc

in_range_of : (d : Diagram) (step : ℕ) (carry : Bool) → 1 ≤ step → LimitsInRange → IsOk (limits_of d step carry) → (1 ≤ free_flow_time d) × (free_flow_time d ≤ 3600000000)
in_range_of d step carry some in_range is =
    let made = was_ok (limits_of d step carry) is in
    let range : AreInRange step made.0 = in_range d step carry made.0 made.1 in
    let time : (made.0).free_ms ≡ free_flow_time d = free_is d step carry made.0 made.1 in
    let least : step ≤ (made.0).free_ms = range.free_least in
    let most : (made.0).free_ms ≤ 3600000000 = range.free_most in
    (omega arith, omega arith)

no_diagram : Diagram
no_diagram = record { length_m = 0; free_kmh = 0; wave_kmh = 0; jam_per_km = 0 }

between : (s : ScenarioData) → LimitsInRange → IsScenario s → (link : ℕ) → link < length s.network.links → (1 ≤ (roads_of s).free_time link) × ((roads_of s).free_time link ≤ 3600000000)
between s in_range is link low =
    let there : link < length s.diagrams = subst (λ n. link < n) (sym is.diagram_for_each) low in
    let d : Diagram = slice_index_or s.diagrams link no_diagram in
    let at : slice_get s.diagrams link ≡ Some d = slice_get-get_or s.diagrams link no_diagram there in
    let range = in_range_of d s.setup.step.0 s.setup.carry (is.setup).step_least in_range (is.limits link no_diagram there) in
    subst (λ o. (1 ≤ option_map_or free_flow_time o 0) × (option_map_or free_flow_time o 0 ≤ 3600000000)) (sym at) range

pub are_roads : (s : ScenarioData) → LimitsInRange → IsScenario s → AreRoads (roads_of s)
are_roads s in_range is = record {
  tails = (is.network).tail_is_node;
  heads = (is.network).head_is_node;
  apart = (is.network).no_loop;
  some_time = λ link low. (between s in_range is link low).0;
  most_time = λ link low. (between s in_range is link low).1;
  few_nodes = (let a = (is.network).few_nodes in let b = (is.network).few_links in let c = (is.network).most_is_small in omega arith);
}
