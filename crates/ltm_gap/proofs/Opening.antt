-- The first moment at which a link is open, from the first slot in which it is.
use Rattle.std.proofs.Common.{◌≡◌, ℕ, ◌+◌, ◌-◌, ◌*◌, ◌/◌, ◌<◌, ◌≤◌, ◌&&◌, inl, inr, nat_le, nat_lt, Some, None, ap, sym, arith, ◌∙◌}
use Rattle.std.proofs.Math.Nat.{mul-le-mul_right, div-mul-le_self}
use Rattle.std.proofs.lemmas.Nat.{le-div, mod_below, div-add-mod', div-mul-add}
use Rattle.std.proofs.lemmas.Bool.{cases_lt}
use Rattle.ltm_units.specs.Numbers.{first_below}
use Rattle.ltm_units.proofs.BadBytes.{first_is, is_first, none_below, first_not_here}
use Rattle.ltm_loading.specs.Setting.{Setting}
use Rattle.std.specs.Prelude.{option_map}
use Rattle.ltm_times.proofs.Least.{none_passes}
use Rattle.ltm_gap.specs.Leaving.{open_moment}
use Rattle.ltm_gap.specs.Steps.{first_open, first_out}
use Rattle.ltm_gap.proofs.Firsts.{both, left_of, right_of, not_left, not_right, at_most, is_at_most, more, less, not_less, second, shifted}

quotient_below : (m slots step : ℕ) → 0 < step → m < slots * step → m / step < slots
quotient_below m slots step some l =
    elim (cases_lt (m / step) slots) [
      | inl below ↦ below
      | inr above ↦ absurd (omega (arith, div-mul-le_self m step, mul-le-mul_right step above))
    ]

quotient_rises : (x y step : ℕ) → 0 < step → x ≤ y → x / step ≤ y / step
quotient_rises x y step some l = le-div (x / step) y step some (omega (arith, div-mul-le_self x step))

at_slot : (t step : ℕ) → 0 < step → t * step / step ≡ t
at_slot t step some = ap (λ z. z / step) (let e : t * step ≡ t * step + 0 = omega arith in e) ∙ div-mul-add t step 0 some

-- what is before the beginning of a slot lies in a slot before
before_slot : (m t step : ℕ) → 0 < step → m < t * step → m / step < t
before_slot m t step some l = quotient_below m t step some l

-- past the end
pub open_past : (limit : ℕ → ℕ) (step slots moment : ℕ) → slots ≤ moment / step → open_moment limit step slots moment ≡ None
unfolding open_moment
open_past limit step slots moment past =
    none_passes (λ m. nat_le moment m && nat_lt 0 (limit (m / step))) (slots * step)
    (λ m l. not_left (nat_le moment m) (nat_lt 0 (limit (m / step))) (more moment m (omega (arith, div-mul-le_self moment step, mul-le-mul_right step past))))

-- at once
pub open_here : (limit : ℕ → ℕ) (step slots moment : ℕ) → 0 < step → moment / step < slots → first_open limit slots (moment / step) ≡ Some (moment / step)
    → open_moment limit step slots moment ≡ Some moment
unfolding first_open open_moment
open_here limit step slots moment some there found =
    let here = is_first (λ t. nat_le (moment / step) t && nat_lt 0 (limit t)) slots (moment / step) found in
    first_is (λ m. nat_le moment m && nat_lt 0 (limit (m / step))) (slots * step) moment (record {
      below = omega (arith, div-add-mod' moment step, mod_below moment step some, mul-le-mul_right step (let next : moment / step + 1 ≤ slots = omega arith in next));
      holds = both (nat_le moment moment) (nat_lt 0 (limit (moment / step))) (at_most moment moment (omega arith)) (right_of (nat_le (moment / step) (moment / step)) (nat_lt 0 (limit (moment / step))) here.holds);
      before = λ m l. not_left (nat_le moment m) (nat_lt 0 (limit (m / step))) (more moment m l);
    })

-- with a later slot
pub open_later : (limit : ℕ → ℕ) (step slots moment t : ℕ) → 0 < step → moment / step < t → first_open limit slots (moment / step) ≡ Some t
    → open_moment limit step slots moment ≡ Some (t * step)
unfolding first_open open_moment
open_later limit step slots moment t some later found =
    let here = is_first (λ t. nat_le (moment / step) t && nat_lt 0 (limit t)) slots t found in
    let within : (t + 1) * step ≤ slots * step = mul-le-mul_right step (let next : t + 1 ≤ slots = omega (arith, here.below) in next) in
    let start : (moment / step + 1) * step ≤ t * step = mul-le-mul_right step (omega arith) in
    first_is (λ m. nat_le moment m && nat_lt 0 (limit (m / step))) (slots * step) (t * step) (record {
      below = omega arith;
      holds = both (nat_le moment (t * step)) (nat_lt 0 (limit (t * step / step))) (at_most moment (t * step) (omega (arith, div-add-mod' moment step, mod_below moment step some)))
          (ap (λ z. nat_lt 0 (limit z)) (at_slot t step some) ∙ right_of (nat_le (moment / step) t) (nat_lt 0 (limit t)) here.holds);
      before = λ m l. elim (cases_lt m moment) [
        | inl early ↦ not_left (nat_le moment m) (nat_lt 0 (limit (m / step))) (more moment m early)
        | inr late ↦ not_right (nat_le moment m) (nat_lt 0 (limit (m / step)))
            (second (nat_le (moment / step) (m / step)) (nat_lt 0 (limit (m / step))) (at_most (moment / step) (m / step) (quotient_rises moment m step some late)) (here.before (m / step) (before_slot m t step some l)))
      ];
    })

-- or never
pub open_never : (limit : ℕ → ℕ) (step slots moment : ℕ) → 0 < step → first_open limit slots (moment / step) ≡ None → open_moment limit step slots moment ≡ None
unfolding first_open open_moment
open_never limit step slots moment some none =
    none_passes (λ m. nat_le moment m && nat_lt 0 (limit (m / step))) (slots * step) (λ m l. elim (cases_lt m moment) [
      | inl early ↦ not_left (nat_le moment m) (nat_lt 0 (limit (m / step))) (more moment m early)
      | inr late ↦ not_right (nat_le moment m) (nat_lt 0 (limit (m / step)))
          (second (nat_le (moment / step) (m / step)) (nat_lt 0 (limit (m / step))) (at_most (moment / step) (m / step) (quotient_rises moment m step some late))
          (none_below (λ t. nat_le (moment / step) t && nat_lt 0 (limit t)) slots none (m / step) (quotient_below m slots step some l)))
    ])

-- ---- the first open slot, as it is looked for
pub open_none_yet : (limit : ℕ → ℕ) (from : ℕ) → first_below (λ t. nat_le from t && nat_lt 0 (limit t)) from ≡ None
open_none_yet limit from = none_passes (λ t. nat_le from t && nat_lt 0 (limit t)) from (λ t l. not_left (nat_le from t) (nat_lt 0 (limit t)) (more from t l))

pub open_found : (limit : ℕ → ℕ) (slots from slot : ℕ) → from ≤ slot → slot < slots → 0 < limit slot → first_below (λ t. nat_le from t && nat_lt 0 (limit t)) slot ≡ None → Some slot ≡ first_open limit slots from
unfolding first_open
open_found limit slots from slot late low some none =
    sym (first_is (λ t. nat_le from t && nat_lt 0 (limit t)) slots slot (record {
      below = low;
      holds = both (nat_le from slot) (nat_lt 0 (limit slot)) (at_most from slot late) (less 0 (limit slot) some);
      before = λ t l. none_below (λ t. nat_le from t && nat_lt 0 (limit t)) slot none t l;
    }))

pub open_passed : (limit : ℕ → ℕ) (from slot : ℕ) → limit slot ≡ 0 → first_below (λ t. nat_le from t && nat_lt 0 (limit t)) slot ≡ None → first_below (λ t. nat_le from t && nat_lt 0 (limit t)) (slot + 1) ≡ None
open_passed limit from slot shut none = first_not_here (λ t. nat_le from t && nat_lt 0 (limit t)) slot none (not_right (nat_le from slot) (nat_lt 0 (limit slot)) (not_less 0 (limit slot) (omega arith)))

pub open_nowhere : (limit : ℕ → ℕ) (slots from slot : ℕ) → slots ≤ slot → first_below (λ t. nat_le from t && nat_lt 0 (limit t)) slot ≡ None → None ≡ first_open limit slots from
unfolding first_open
open_nowhere limit slots from slot past none =
    sym (none_passes (λ t. nat_le from t && nat_lt 0 (limit t)) slots (λ t l. none_below (λ t. nat_le from t && nat_lt 0 (limit t)) slot none t (omega arith)))

pub later_slot : (limit : ℕ → ℕ) (slots from t : ℕ) → first_open limit slots from ≡ Some t → from ≤ t
unfolding first_open
later_slot limit slots from t found = let here = is_first (λ t. nat_le from t && nat_lt 0 (limit t)) slots t found in is_at_most from t (left_of (nat_le from t) (nat_lt 0 (limit t)) here.holds)

-- ---- the first moment at which a link lets out
pub out_is : (s : Setting) (link moment : ℕ) → 1 ≤ moment → first_out s link moment ≡ option_map (λ x. x + 1) (open_moment (s.exit_limit link) s.step s.slots (moment - 1))
unfolding first_out open_moment
out_is s link moment some = shifted (λ m. nat_lt 0 (s.exit_limit link (m / s.step))) (s.slots * s.step) moment some

pub out_none : (s : Setting) (link moment step : ℕ) → 1 ≤ moment → step ≡ s.step → None ≡ open_moment (s.exit_limit link) step s.slots (moment - 1) → None ≡ first_out s link moment
out_none s link moment step some is none =
    sym (out_is s link moment some ∙ ap (option_map (λ x. x + 1)) (sym (none ∙ ap (λ n. open_moment (s.exit_limit link) n s.slots (moment - 1)) is)))

pub out_some : (s : Setting) (link moment step x : ℕ) → 1 ≤ moment → step ≡ s.step → Some x ≡ open_moment (s.exit_limit link) step s.slots (moment - 1) → Some (x + 1) ≡ first_out s link moment
out_some s link moment step x some is found =
    sym (out_is s link moment some ∙ ap (option_map (λ x. x + 1)) (sym (found ∙ ap (λ n. open_moment (s.exit_limit link) n s.slots (moment - 1)) is)))
