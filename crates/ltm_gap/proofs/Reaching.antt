-- The first moment from one on at which a curve has so many units.
use Rattle.std.proofs.Common.{◌≡◌, ℕ, ◌+◌, ◌*◌, ◌<◌, ◌≤◌, ◌&&◌, inl, inr, Bool, true, false, nat_le, Option, Some, None, refl, ap, sym, subst, arith, ◌∙◌}
use Rattle.std.proofs.Math.Nat.{mul-le-mul_right, mul-le-mul_left}
use Rattle.std.proofs.lemmas.Bool.{cases_lt}
use Rattle.ltm_units.specs.Numbers.{first_below}
use Rattle.ltm_units.proofs.BadBytes.{first_is, is_first, none_below}
use Rattle.ltm_curve.specs.Counts.{Rises, interpolated}
use Rattle.ltm_curve.proofs.Interpolation.{interpolated_rises}
use Rattle.ltm_times.specs.Moments.{first_moment}
use Rattle.ltm_times.proofs.Least.{none_passes}
use Rattle.std.specs.Prelude.{option_and_then}
use Rattle.ltm_loading.specs.Setting.{Setting}
use Rattle.ltm_loading.specs.Groups.{up_of, down_of}
use Rattle.ltm_curve.specs.TotalCurves.{total_at, total_groups}
use Rattle.ltm_flows.specs.declared.loading.Loading.{Loading}
use Rattle.ltm_flows.specs.Shown.{curves_of, last_of, step_of, links_of, nodes_of}
use Rattle.ltm_flows.specs.Counted.{entered_by, left_by}
use Rattle.ltm_gap.specs.Told.{Suits}
use Rattle.ltm_gap.specs.Steps.{first_out}
use Rattle.ltm_gap.specs.Leaving.{end_of, lets_out, may_leave, leaves_from, first_from}
use Rattle.ltm_gap.proofs.Firsts.{both, left_of, right_of, not_left, not_right, at_most, is_at_most, more, same_first, found_before, one_by_one}

pub from_past : (f : ℕ → ℕ) (step slots count from : ℕ) → slots * step < from → None ≡ first_from f step slots count from
unfolding first_from
from_past f step slots count from past =
    sym (none_passes (λ m. nat_le from m && nat_le count (interpolated f step m)) (slots * step + 1) (λ m l. not_left (nat_le from m) (nat_le count (interpolated f step m)) (more from m (omega arith))))

pub from_here : (f : ℕ → ℕ) (step slots count from : ℕ) → from ≤ slots * step → count ≤ interpolated f step from → Some from ≡ first_from f step slots count from
unfolding first_from
from_here f step slots count from within has =
    sym (first_is (λ m. nat_le from m && nat_le count (interpolated f step m)) (slots * step + 1) from (record {
      below = omega arith;
      holds = both (nat_le from from) (nat_le count (interpolated f step from)) (at_most from from (omega arith)) (at_most count (interpolated f step from) has);
      before = λ m l. not_left (nat_le from m) (nat_le count (interpolated f step m)) (more from m l);
    }))

-- where it has fewer then, the first moment at all
pub from_later : (f : ℕ → ℕ) (step slots count from : ℕ) → 0 < step → Rises f slots → from ≤ slots * step → interpolated f step from < count → first_moment f step slots count ≡ first_from f step slots count from
unfolding first_from first_moment
from_later f step slots count from some rises within few = go (first_below (λ m. nat_le count (interpolated f step m)) (slots * step + 1)) refl
  where
    go : (o : Option ℕ) → first_below (λ m. nat_le count (interpolated f step m)) (slots * step + 1) ≡ o
        → first_below (λ m. nat_le count (interpolated f step m)) (slots * step + 1) ≡ first_below (λ m. nat_le from m && nat_le count (interpolated f step m)) (slots * step + 1)
    go None e =
        e ∙ sym (none_passes (λ m. nat_le from m && nat_le count (interpolated f step m)) (slots * step + 1)
        (λ m l. not_right (nat_le from m) (nat_le count (interpolated f step m)) (none_below (λ m. nat_le count (interpolated f step m)) (slots * step + 1) e m l)))
    go (Some x) e =
        let here = is_first (λ m. nat_le count (interpolated f step m)) (slots * step + 1) x e in
        let has : count ≤ interpolated f step x = is_at_most count (interpolated f step x) here.holds in
        let late : from ≤ x = elim (cases_lt x from) [
          | inl early ↦ absurd (omega (arith, interpolated_rises f slots step x from some rises (omega arith) within))
          | inr late ↦ late
        ] in
        e ∙ sym (first_is (λ m. nat_le from m && nat_le count (interpolated f step m)) (slots * step + 1) x (record {
          below = here.below;
          holds = both (nat_le from x) (nat_le count (interpolated f step x)) (at_most from x late) here.holds;
          before = λ m l. not_right (nat_le from m) (nat_le count (interpolated f step m)) (here.before m l);
        }))

-- what is known of such a moment
pub record IsReached (f : ℕ → ℕ) (step slots count from moment : ℕ) : Type 0 where
  pub behind : from ≤ moment
  pub within : moment ≤ slots * step
  pub has : count ≤ interpolated f step moment

pub is_reached : (f : ℕ → ℕ) (step slots count from moment : ℕ) → first_from f step slots count from ≡ Some moment → IsReached f step slots count from moment
unfolding first_from
is_reached f step slots count from moment is =
    let h = is_first (λ m. nat_le from m && nat_le count (interpolated f step m)) (slots * step + 1) moment is in
    record {
      behind = is_at_most from moment (left_of (nat_le from moment) (nat_le count (interpolated f step moment)) h.holds);
      within = omega (arith, h.below);
      has = is_at_most count (interpolated f step moment) (right_of (nat_le from moment) (nat_le count (interpolated f step moment)) h.holds);
    }

-- fewer units from an earlier moment on come no later
pub first_sooner : (f : ℕ → ℕ) (step slots few many from on y : ℕ) → few ≤ many → from ≤ on → first_from f step slots many on ≡ Some y → (x : ℕ) × (first_from f step slots few from ≡ Some x) × (x ≤ y)
unfolding first_from
first_sooner f step slots few many from on y fewer earlier is =
    found_before (λ m. nat_le from m && nat_le few (interpolated f step m)) (λ m. nat_le on m && nat_le many (interpolated f step m)) (slots * step + 1) y (λ k low h.
    let late : on ≤ k = is_at_most on k (left_of (nat_le on k) (nat_le many (interpolated f step k)) h) in
    let has : many ≤ interpolated f step k = is_at_most many (interpolated f step k) (right_of (nat_le on k) (nat_le many (interpolated f step k)) h) in
    both (nat_le from k) (nat_le few (interpolated f step k)) (at_most from k (omega arith)) (at_most few (interpolated f step k) (omega arith))) is

-- ---- who leaves a link
and_both : (a b c : Bool) → (a && (b && c)) ≡ ((a && b) && c)
and_both true b c = refl
and_both false b c = refl

pub leaves_in_steps : (s : Setting) (link : ℕ) (up down : ℕ → ℕ) (entry : ℕ) → 0 < s.step → Rises down s.slots
    → leaves_from s link up down entry ≡ option_and_then (first_out s link) (first_from down s.step s.slots (interpolated up s.step entry) (entry + s.free_time link))
unfolding leaves_from first_from first_out
leaves_in_steps s link up down entry some rises =
    let free : ℕ = entry + s.free_time link in
    let count : ℕ = interpolated up s.step entry in
    let ready : ℕ → Bool = λ m. nat_le free m && nat_le count (interpolated down s.step m) in
    same_first (may_leave s link up down entry) (λ m. ready m && lets_out s link m) (end_of s + 1) (λ m l. and_both (nat_le free m) (nat_le count (interpolated down s.step m)) (lets_out s link m))
    ∙ one_by_one ready (lets_out s link) (end_of s + 1) (λ j k l low h.
    let late : free ≤ j = is_at_most free j (left_of (nat_le free j) (nat_le count (interpolated down s.step j)) h) in
    let has : count ≤ interpolated down s.step j = is_at_most count (interpolated down s.step j) (right_of (nat_le free j) (nat_le count (interpolated down s.step j)) h) in
    both (nat_le free k) (nat_le count (interpolated down s.step k)) (at_most free k (omega arith))
    (at_most count (interpolated down s.step k) (omega (arith, interpolated_rises down s.slots s.step j k some rises l (omega arith)))))

pub same_args : (f : ℕ → ℕ) (a a' b b' c c' d d' : ℕ) → a ≡ a' → b ≡ b' → c ≡ c' → d ≡ d' → first_from f a b c d ≡ first_from f a' b' c' d'
same_args f a a' b b' c c' d d' e g h i =
    ap (λ x. first_from f x b c d) e ∙ ap (λ x. first_from f a' x c d) g ∙ ap (λ x. first_from f a' b' x d) h ∙ ap (λ x. first_from f a' b' c' x) i

pub same_product : (a a' b b' : ℕ) → a ≡ a' → b ≡ b' → a * b ≡ a' * b'
same_product a a' b b' e f = ap (λ x. x * b) e ∙ ap (λ x. a' * x) f

pub small_product : (slots step : ℕ) → slots ≤ 10000 → step ≤ 60000 → slots * step ≤ 600000000
small_product slots step few short = omega (arith, mul-le-mul_right step few, mul-le-mul_left 10000 short)

-- who leaves a link, as it is read from a loading
pub leaves_as_read : (s : Setting) (l : Loading) (link entry count up down free : ℕ) → 0 < s.step → Suits s l → link < s.links → total_groups (curves_of l) ≡ 2 * links_of l + nodes_of l + 1
    → ((g k : ℕ) → g < total_groups (curves_of l) → k < last_of l → total_at (curves_of l) g k ≤ total_at (curves_of l) g (k + 1))
    → count ≡ interpolated (total_at (curves_of l) up) (step_of l) entry → up ≡ up_of link → down ≡ down_of link → free ≡ s.free_time link
    → leaves_from s link (entered_by l link) (left_by l link) entry ≡ option_and_then (first_out s link) (first_from (total_at (curves_of l) down) (step_of l) (last_of l) count (entry + free))
leaves_as_read s l link entry count up down free some suits there groups rises count_is up_is down_is free_is =
    let links : link < links_of l = subst (λ n. link < n) (sym suits.links) there in
    let low : down_of link < total_groups (curves_of l) = subst (λ n. down_of link < n) (sym groups) (omega arith) in
    let left_rises : Rises (left_by l link) s.slots = λ k below. rises (down_of link) k low (subst (λ n. k < n) (sym suits.slots) below) in
    let entered : count ≡ interpolated (entered_by l link) s.step entry
    = count_is ∙ ap (λ g. interpolated (total_at (curves_of l) g) (step_of l) entry) up_is ∙ ap (λ n. interpolated (entered_by l link) n entry) suits.step in
    let reached : first_from (total_at (curves_of l) down) (step_of l) (last_of l) count (entry + free)
    ≡ first_from (left_by l link) s.step s.slots (interpolated (entered_by l link) s.step entry) (entry + s.free_time link)
    = ap (λ g. first_from (total_at (curves_of l) g) (step_of l) (last_of l) count (entry + free)) down_is
    ∙ same_args (left_by l link) (step_of l) s.step (last_of l) s.slots count (interpolated (entered_by l link) s.step entry)
    (entry + free) (entry + s.free_time link) suits.step suits.slots entered (ap (λ n. entry + n) free_is) in
    leaves_in_steps s link (entered_by l link) (left_by l link) entry some left_rises ∙ ap (option_and_then (first_out s link)) (sym reached)
