-- The limits of a link lie in their ranges.
use Rattle.std.proofs.Common.{◌≡◌, ℕ, ◌+◌, ◌*◌, ◌/◌, ◌<◌, ◌≤◌, ◌==◌, ◌||◌, Bool, true, false, nat_lt, min, Result, Ok, refl, ap, sym, subst, ◌∙◌, inl, inr, arith}
use Rattle.std.proofs.lemmas.Nat.{mul-le, mod_below, div-add-mod'}
use Rattle.std.proofs.lemmas.Bool.Decides.{nat_tests}
use Rattle.std.specs.Int.{div_ceil}
use Rattle.ltm_units.specs.Results.{refuse, ◌>>>◌}
use Rattle.ltm_units.proofs.Results.{passed}
use Rattle.ltm_diagram.specs.declared.diagram.Diagram.{Diagram}
use Rattle.ltm_diagram.specs.declared.diagram.Limits.{Limits}
use Rattle.ltm_diagram.specs.declared.diagram.Field.{Field}
use Rattle.ltm_diagram.specs.declared.diagram.DiagramFault.{DiagramFault}
use Rattle.ltm_diagram.specs.declared.diagram.DiagramFault.TheVariants.{Zero, Over}
use Rattle.ltm_diagram.specs.Limits.{limits_of, field_in_range, free_flow_time, wave_time, flow_of, parts_of, capacity_of, rest_of, whole_of, most_of, storage_of}
use Rattle.ltm_diagram.specs.Passing.{capacity_in}
use Rattle.ltm_diagram.proofs.Passing.{none_left, either_in, all_pass}
use Rattle.ltm_units.specs.Sums.{sum_below}
use Rattle.ltm_diagram.specs.InRange.{AreInRange}

two_passed : {A : Type 0} (a b : Bool) (f g : DiagramFault) (next : Result A DiagramFault) (x : A) → ((refuse a f >>> refuse b g) >>> next) ≡ Ok x → (a ≡ false) × (b ≡ false) × (next ≡ Ok x)
two_passed true b f g next x is = cc
two_passed false b f g next x is = let more = passed b g next x is in (refl, more.0, more.1)

-- a field that is not refused is 1 to its limit
has_size : {A : Type 0} (field : Field) (most value : ℕ) (next : Result A DiagramFault) (x : A) → (field_in_range field most value >>> next) ≡ Ok x → (1 ≤ value) × (value ≤ most) × (next ≡ Ok x)
has_size field most value next x is =
    let p = two_passed (value == 0) (nat_lt most value) (Zero field) (Over field) next x is in
    (grind (arith, nat_tests, p.0), grind (arith, nat_tests, p.1), p.2)

-- a quotient is not above what was divided, rounded up too
ceiling_within : (x y : ℕ) → 1 ≤ y → div_ceil x y ≤ x
ceiling_within x y some =
    let whole : 1 * (x / y) ≤ y * (x / y) = mul-le 1 (x / y) y (x / y) some (omega arith) in
    omega (arith, whole)

neither : (a b : Bool) → (a || b) ≡ false → (a ≡ false) × (b ≡ false)
neither true b is = cc
neither false b is = (refl, is)

-- the limits that are set where nothing is refused
abbrev all_limits : Diagram → ℕ → Bool → Limits
all_limits d step carry = record { free_ms = free_flow_time d; wave_ms = wave_time d; capacity = capacity_of d step; rest = rest_of d step carry; whole = whole_of d carry; storage = storage_of d }

-- what is left over is less than a whole
rest_below : (d : Diagram) (step : ℕ) (carry : Bool) → 1 ≤ d.free_kmh → rest_of d step carry < whole_of d carry
rest_below d step true free = mod_below (flow_of d step) (parts_of d) (omega arith)
rest_below d step false free = omega arith

slot_least : (limits : Limits) (slot : ℕ) → limits.rest < limits.whole → 1 ≤ limits.capacity → 1 ≤ capacity_in limits slot
slot_least limits slot small some =
    elim (either_in limits slot small) [
      | inl same ↦ omega (arith, same)
      | inr more ↦ omega (arith, more.0)
    ]

slot_most : (limits : Limits) (slot : ℕ) → limits.rest < limits.whole → limits.capacity + min 1 limits.rest ≤ 32000 → capacity_in limits slot ≤ 32000
slot_most limits slot small most =
    elim (either_in limits slot small) [
      | inl same ↦ omega (arith, same)
      | inr more ↦ omega (arith, more.0, more.1)
    ]

same_limits : (a b : Limits) → ◌≡◌ {A = Result Limits DiagramFault} (Ok a) (Ok b) → a ≡ b
same_limits a b is = cc

all_in_range : (d : Diagram) (step : ℕ) (carry : Bool) → 1 ≤ d.length_m → d.length_m ≤ 1000000 → 1 ≤ d.free_kmh → 1 ≤ d.wave_kmh → 1 ≤ d.jam_per_km → d.jam_per_km ≤ 10000 →
    step ≤ free_flow_time d → step ≤ wave_time d → 1 ≤ capacity_of d step → most_of d step carry ≤ 32000 → AreInRange step (all_limits d step carry)
all_in_range d step carry length length_most free wave jam jam_most free_least wave_least some most = record {
  free_least = free_least;
  free_most = omega (arith, ceiling_within (d.length_m * 3600) d.free_kmh free);
  wave_least = wave_least;
  wave_most = omega (arith, ceiling_within (d.length_m * 3600) d.wave_kmh wave);
  capacity_least = some;
  rest = rest_below d step carry free;
  capacity_most = most;
  slot_least = λ slot. slot_least (all_limits d step carry) slot (rest_below d step carry free) some;
  slot_most = λ slot. slot_most (all_limits d step carry) slot (rest_below d step carry free) most;
  storage_least = omega (arith, mul-le 1 1 d.jam_per_km d.length_m jam length);
  storage_most = omega (arith, mul-le d.jam_per_km d.length_m 10000 1000000 jam_most length_most);
}

not_below : (a b : ℕ) → nat_lt a b ≡ false → b ≤ a
not_below a b is = grind (arith, nat_tests)

not_none : (a : ℕ) → (a == 0) ≡ false → 1 ≤ a
not_none a is = grind (arith, nat_tests)

made : (d : Diagram) (step : ℕ) (carry : Bool) (limits : Limits) → limits_of d step carry ≡ Ok limits → (all_limits d step carry ≡ limits) × AreInRange step (all_limits d step carry)
unfolding limits_of
made d step carry limits is =
    let length = has_size _ 1000000 d.length_m _ limits is in
    let free = has_size _ 1000 d.free_kmh _ limits length.2 in
    let wave = has_size _ 1000 d.wave_kmh _ limits free.2 in
    let jam = has_size _ 10000 d.jam_per_km _ limits wave.2 in
    let times = passed _ _ _ limits jam.2 in
    let some = passed _ _ _ limits times.1 in
    let most = passed _ _ _ limits some.1 in
    let long = neither _ _ times.0 in (
      same_limits (all_limits d step carry) limits most.1,
      all_in_range d step carry length.0 length.1 free.0 wave.0 jam.0 jam.1
          (not_below _ _ long.0) (not_below _ _ long.1) (not_none _ some.0) (not_below _ _ most.0),
    )

-- a diagram that sets limits sets these
is_all : (d : Diagram) (step : ℕ) (carry : Bool) (limits : Limits) → limits_of d step carry ≡ Ok limits → all_limits d step carry ≡ limits
is_all d step carry limits is = (made d step carry limits is).0

pub in_range : (d : Diagram) (step : ℕ) (carry : Bool) (limits : Limits) → limits_of d step carry ≡ Ok limits → AreInRange step limits
in_range d step carry limits is = subst (AreInRange step) (is_all d step carry limits is) (made d step carry limits is).1

pub lost_none : (d : Diagram) (step slots : ℕ) (limits : Limits) → limits_of d step true ≡ Ok limits → sum_below slots (capacity_in limits) ≡ flow_of d step * slots / parts_of d
lost_none d step slots limits is =
    let whole : limits.capacity * limits.whole + limits.rest ≡ flow_of d step =
    sym (ap (λ (l : Limits). l.capacity * l.whole + l.rest) (is_all d step true limits is)) ∙ div-add-mod' (flow_of d step) (parts_of d) in
    let parts : limits.whole ≡ parts_of d = sym (ap (λ (l : Limits). l.whole) (is_all d step true limits is)) in
    all_pass limits slots (in_range d step true limits is).rest
    ∙ ap (λ n. n * slots / limits.whole) whole ∙ ap (λ n. flow_of d step * slots / n) parts

pub alike : (d : Diagram) (step slot : ℕ) (limits : Limits) → limits_of d step false ≡ Ok limits → (capacity_in limits slot ≡ limits.capacity) × (limits.capacity ≡ capacity_of d step)
alike d step slot limits is =
    let none : limits.rest ≡ 0 = sym (ap (λ (l : Limits). l.rest) (is_all d step false limits is)) in
    (none_left limits slot (in_range d step false limits is).rest none, sym (ap (λ (l : Limits). l.capacity) (is_all d step false limits is)))

pub either : (d : Diagram) (step slot : ℕ) (carry : Bool) (limits : Limits) → limits_of d step carry ≡ Ok limits → (limits.capacity ≤ capacity_in limits slot) × (capacity_in limits slot ≤ limits.capacity + 1)
either d step slot carry limits is =
    elim (either_in limits slot (in_range d step carry limits is).rest) [
      | inl same ↦ (omega (arith, same), omega (arith, same))
      | inr more ↦ (omega (arith, more.0), omega (arith, more.0))
    ]
