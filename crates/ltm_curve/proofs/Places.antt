-- Where counts lie in the table.
use Rattle.std.proofs.Common.{◌≡◌, ◌≢◌, ℕ, ◌+◌, ◌*◌, ◌^◌, ◌<◌, ◌≤◌, ◌++◌, List, length, replicate, slice_index, slice_set, ℤ, pos, negsuc, ◌≤ℤ◌, arith, refl, inl, inr, ap, sym, ◌∙◌, get_or-set_same, get_or-set_other}
use Rattle.std.proofs.Math.Nat.{mul-le-mul_right}
use Rattle.std.proofs.lemmas.Bool.{cases_lt}
use Rattle.std.proofs.lemmas.Nat.{same_from_place}
use Rattle.std.proofs.lemmas.Int.{ints}
use Rattle.ltm_units.specs.Sums.{sum_below}
use Rattle.ltm_curve.specs.Counts.{at_time}
use Rattle.ltm_curve.specs.declared.curves.Curves.{Curves}
use Rattle.ltm_curve.specs.Table.{groups_of, destinations_of, slots_of, place, counts_of, total_of, IsIn, SameShape, Sets, Carries}
use Rattle.ltm_curve.specs.Blocks.{IsCarried}
use Rattle.ltm_curve.specs.CurveLaws.{SameCounts, CountsTellAll}
use Rattle.ltm_curve.specs.Totals.{most_total}
use Rattle.ltm_units.proofs.Sums.{sum_below-same, sum_below-most, le-sum_below}
use Rattle.ltm_curve.proofs.Interpolation.{interpolated_same}
use Rattle.ltm_curve.proofs.Longer.{at_old, at_new}

pub same_place : (a b : Curves) (g d k : ℕ) → SameShape a b → place a g d k ≡ place b g d k
same_place a b g d k s = ap (λ (z : ℕ). (k * z + g) * a.destinations + d) s.groups ∙ ap (λ (z : ℕ). (k * b.groups + g) * z + d) s.destinations

pub sets_holds : (old new : Curves) (g d k v at : ℕ) → IsIn old g d k → SameShape new old → at ≡ place old g d k → at < length old.counts.items → new.counts.items ≡ slice_set old.counts.items at v → Sets old new g d k v
unfolding counts_of
sets_holds old new g d k v at h s at_place within set = record {
  shape = s;
  here =
      let here : slice_index (slice_set old.counts.items at v) at ≡ v = get_or-set_same old.counts.items at v 0 within in
      ap (λ (z : ℕ). slice_index new.counts.items z) (same_place new old g d k s ∙ sym at_place) ∙ (ap (λ (xs : List ℕ). slice_index xs at) set ∙ here);
  others = λ g2 d2 k2 h2 differs.
      let apart : place old g2 d2 k2 ≢ at = λ e.
      let one = same_from_place (k2 * old.groups + g2) d2 (k * old.groups + g) d old.destinations h2.is_destination h.is_destination (e ∙ at_place) in
      let two = same_from_place k2 g2 k g old.groups h2.is_group h.is_group one.0 in
      elim differs [ inl a ↦ a two.1 | inr more ↦ elim more [ inl b ↦ b one.1 | inr c ↦ c two.0 ] ] in
      let kept : slice_index (slice_set old.counts.items at v) (place old g2 d2 k2) ≡ slice_index old.counts.items (place old g2 d2 k2) = get_or-set_other old.counts.items at (place old g2 d2 k2) v 0 apart in
      ap (λ (z : ℕ). slice_index new.counts.items z) (same_place new old g2 d2 k2 s) ∙ (ap (λ (xs : List ℕ). slice_index xs (place old g2 d2 k2)) set ∙ kept);
}

same_totals : (a b : Curves) → SameCounts a b → (g k : ℕ) → g < groups_of b → k ≤ slots_of b → total_of a g k ≡ total_of b g k
same_totals a b s g k x y =
    ap (λ (z : ℕ). sum_below z (λ d. counts_of a g d k)) s.shape.destinations
    ∙ sum_below-same (destinations_of b) (λ d. counts_of a g d k) (λ d. counts_of b g d k) (λ d l. s.counts g d k (record { is_group = x; is_destination = l; is_boundary = y }))

same_times : (a b : Curves) → SameCounts a b → (g : ℕ) → g < groups_of b → (step : ℕ) (time : ℤ) → 0 < step → time ≤ℤ pos (slots_of b * step) → at_time (total_of a g) step time ≡ at_time (total_of b g) step time
same_times a b s g x step (pos time) some l = interpolated_same (total_of a g) (total_of b g) step (slots_of b) time some (omega (arith, ints)) (λ k y. same_totals a b s g k x y)
same_times a b s g x step (negsuc time) some l = refl

pub counts_tell_all_holds : CountsTellAll
counts_tell_all_holds a b s g x = (λ k y. same_totals a b s g k x y, λ step time some l. same_times a b s g x step time some l)

-- totals are small
pub total_small : (c : Curves) (g k : ℕ) → total_of c g k ≤ most_total
unfolding counts_of
total_small c g k = omega (arith, sum_below-most c.destinations (λ d. counts_of c g d k) (2 ^ 31) (λ d l. omega (arith, c.small (place c g d k))), mul-le-mul_right (2 ^ 31) c.few)

-- with one destination a count lies at the number of its row
pub place_alone : (c : Curves) (g k : ℕ) → destinations_of c ≡ 1 → place c g 0 k ≡ k * c.groups + g
place_alone c g k one = let e : (k * c.groups + g) * c.destinations ≡ (k * c.groups + g) * 1 = ap (λ (z : ℕ). (k * c.groups + g) * z) one in omega arith

pub within_alone : (c : Curves) (at : ℕ) → destinations_of c ≡ 1 → at < (c.slots + 1) * c.groups → at < length c.counts.items
within_alone c at one l = let e : (c.slots + 1) * c.groups * c.destinations ≡ (c.slots + 1) * c.groups * 1 = ap (λ (z : ℕ). (c.slots + 1) * c.groups * z) one in omega (arith, c.long)

-- a count is within its total
pub count_within : (c : Curves) (g d k : ℕ) → d < destinations_of c → counts_of c g d k ≤ total_of c g k
count_within c g d k l = le-sum_below (destinations_of c) (λ e. counts_of c g e k) d l

-- curves of one shape have as many rows
pub same_rows_of : (a b : Curves) → SameShape a b → (a.slots + 1) * a.groups ≡ (b.slots + 1) * b.groups
same_rows_of a b s = ap (λ (z : ℕ). (z + 1) * a.groups) s.slots ∙ ap (λ (z : ℕ). (b.slots + 1) * z) s.groups

-- a place in the same table is the same count
pub same_table : (xs ys : List ℕ) (g d k a b m n : ℕ) → xs ≡ ys → a ≡ b → m ≡ n → slice_index xs ((k * a + g) * m + d) ≡ slice_index ys ((k * b + g) * n + d)
same_table xs ys g d k a b m n e f h =
    ap (λ (zs : List ℕ). slice_index zs ((k * a + g) * m + d)) e ∙ (ap (λ (z : ℕ). slice_index ys ((k * z + g) * m + d)) f ∙ ap (λ (z : ℕ). slice_index ys ((k * b + g) * z + d)) h)

-- curves of one shape and one table have all their counts in common
pub same_everywhere : (a b : Curves) → SameShape a b → a.counts.items ≡ b.counts.items → counts_of a ≡ counts_of b
unfolding counts_of
same_everywhere a b s e = λ i g d k. same_table a.counts.items b.counts.items g d k a.groups b.groups a.destinations b.destinations e s.groups s.destinations i

-- a count lies in the block of its boundary
place_below : (c : Curves) (g d k a : ℕ) → g < c.groups → d < c.destinations → k < a → place c g d k < a * (c.groups * c.destinations)
place_below c g d k a x y l =
    let up : k + 1 ≤ a = omega arith in
    let rows : (k * c.groups + g + 1) * c.destinations ≤ (k * c.groups + c.groups) * c.destinations = mul-le-mul_right c.destinations (omega arith) in
    let blocks : (k + 1) * (c.groups * c.destinations) ≤ a * (c.groups * c.destinations) = mul-le-mul_right (c.groups * c.destinations) up in omega arith

place_from : (c : Curves) (g d k a : ℕ) → a ≤ k → a * (c.groups * c.destinations) ≤ place c g d k
place_from c g d k a l = omega (arith, mul-le-mul_right (c.groups * c.destinations) l)

-- what a block of counts is carried on to
pub carries_holds : (old new : Curves) (boundary : ℕ) → SameShape new old → IsCarried old.counts.items new.counts.items (old.groups * old.destinations) boundary → Carries old new boundary
unfolding counts_of
carries_holds old new k s h = record {
  shape = s;
  next = λ g d x y.
      let below : place old g d k < (k + 1) * (old.groups * old.destinations) = place_below old g d k (k + 1) x y (omega arith) in
      let from : k * (old.groups * old.destinations) ≤ place old g d k = place_from old g d k k (omega arith) in
      let at : place old g d (k + 1) ≡ place old g d k + old.groups * old.destinations = omega arith in
      ap (slice_index new.counts.items) (same_place new old g d (k + 1) s)
      ∙ (h.next (place old g d (k + 1)) 0 (omega arith) (omega arith) ∙ ap (slice_index old.counts.items) (omega arith));
  others = λ g d i x differs.
      ap (slice_index new.counts.items) (same_place new old g d i s)
      ∙ elim (cases_lt i (k + 1)) [
        | inl low ↦ h.below (place old g d i) 0 (omega (arith, place_below old g d i (k + 1) x.is_group x.is_destination low))
        | inr from ↦ h.from (place old g d i) 0 (omega (arith, place_from old g d i (k + 2) (omega arith)))
      ];
}

-- as many slots more are as many places more
pub rows_within : (less more groups : ℕ) → less ≤ more → (less + 1) * groups ≤ (more + 1) * groups
rows_within less more groups l = mul-le-mul_right groups (let x : less + 1 ≤ more + 1 = omega arith in x)

pub places_within : (less more groups width : ℕ) → less ≤ more → (less + 1) * groups * width ≤ (more + 1) * groups * width
places_within less more groups width l = mul-le-mul_right width (rows_within less more groups l)

-- where zeros come behind the table, the counts that were there stay, and further ones are 0
pub kept_in : (old new : Curves) (n g d k : ℕ) → groups_of new ≡ groups_of old → destinations_of new ≡ destinations_of old → new.counts.items ≡ old.counts.items ++ replicate n 0 → IsIn old g d k → counts_of new g d k ≡ counts_of old g d k
unfolding counts_of
kept_in old new n g d k e f longer x =
    let at : place new g d k ≡ place old g d k = ap (λ (z : ℕ). (k * z + g) * new.destinations + d) e ∙ ap (λ (z : ℕ). (k * old.groups + g) * z + d) f in
    let below : place old g d k < (old.slots + 1) * (old.groups * old.destinations) = place_below old g d k (old.slots + 1) x.is_group x.is_destination (omega (arith, x.is_boundary)) in
    ap (slice_index new.counts.items) at ∙ (ap (λ (xs : List ℕ). slice_index xs (place old g d k)) longer ∙ at_old old.counts.items n (place old g d k) (omega (arith, old.long)))

pub none_past : (old new : Curves) (n g d k : ℕ) → groups_of new ≡ groups_of old → destinations_of new ≡ destinations_of old → new.counts.items ≡ old.counts.items ++ replicate n 0 → slots_of old < k → counts_of new g d k ≡ 0
unfolding counts_of
none_past old new n g d k e f longer l =
    let at : place new g d k ≡ place old g d k = ap (λ (z : ℕ). (k * z + g) * new.destinations + d) e ∙ ap (λ (z : ℕ). (k * old.groups + g) * z + d) f in
    let past : (old.slots + 1) * (old.groups * old.destinations) ≤ place old g d k = place_from old g d k (old.slots + 1) (omega arith) in
    ap (slice_index new.counts.items) at ∙ (ap (λ (xs : List ℕ). slice_index xs (place old g d k)) longer ∙ at_new old.counts.items n (place old g d k) (omega (arith, old.long)))

-- with one destination its count is the total
pub only_count : (c : Curves) (g k at v : ℕ) → destinations_of c ≡ 1 → at ≡ k * c.groups + g → v ≡ slice_index c.counts.items at → v ≡ total_of c g k
unfolding counts_of
only_count c g k at v one e f =
    let here : at ≡ place c g 0 k = omega (arith, place_alone c g k one) in
    let all : total_of c g k ≡ sum_below 1 (λ d. counts_of c g d k) = ap (λ (z : ℕ). sum_below z (λ d. counts_of c g d k)) one in
    let is : slice_index c.counts.items at ≡ counts_of c g 0 k = ap (slice_index c.counts.items) here in
    omega (arith, all, is, f)
