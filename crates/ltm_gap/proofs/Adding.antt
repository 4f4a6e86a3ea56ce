-- What a slot adds to the sums of all destinations.
use Rattle.std.proofs.Common.{◌≡◌, ℕ, zero, suc, ◌+◌, ◌-◌, ◌*◌, ◌/◌, ◌<◌, ◌≤◌, inl, inr, List, length, Option, replicate, refl, ap, sym, subst, arith, ◌∙◌}
use Rattle.std.specs.Prelude.{◌^◌, slice_set}
use Rattle.std.proofs.lemmas.Bool.{cases_lt, cases_eq}
use Rattle.std.proofs.lemmas.List.{length-set, get_or-set_same, get_or-set_other}
use Rattle.ltm_units.specs.Sums.{sum_below}
use Rattle.ltm_units.proofs.Sums.{sum_below-lt, sum_below-same, sum_below_more}
use Rattle.ltm_curve.specs.Counts.{Counts, total}
use Rattle.ltm_loading.specs.Setting.{Setting, IsSetting}
use Rattle.ltm_flows.specs.declared.loading.Loading.{Loading}
use Rattle.ltm_flows.specs.Origins.{produced_in_all}
use Rattle.ltm_flows.specs.Shown.{ShowsCounts}
use Rattle.ltm_units.specs.declared.quantities.Millis.{Millis}
use Rattle.ltm_curve.proofs.Interpolation.{part_within}
use Rattle.ltm_gap.specs.declared.sums.Sum.{Sum}
use Rattle.ltm_gap.specs.declared.sums.At.{At}
use Rattle.ltm_gap.specs.declared.cutting.Cut.{Cut}
use Rattle.ltm_search.specs.Arrivals.{millis_of}
use Rattle.ltm_gap.specs.Told.{AreGaps, IsGapTo, IsGap}
use Rattle.ltm_gap.specs.declared.gaps.Gap.{Gap}
use Rattle.ltm_gap.specs.declared.gaps.Gaps.{Gaps}
use Rattle.ltm_gap.specs.Earliest.{earliest}
use Rattle.ltm_gap.specs.Gaps.{produced_in, units_in, arriving, share_of, late_in, twice_time, twice_left, twice_of, twice_in, least_to, late_to, least, late}
use Rattle.ltm_gap.specs.Steps.{no_sum, sum_at, IsMore, IsCut, AddsBelow, AreSums, Adds, AddsSlot}

-- ---- of one destination
zero_part : (a b : ℕ) → 0 * a / b ≡ 0
zero_part a b = let e : 0 * a ≡ 0 = omega arith in ap (λ n. n / b) e ∙ (let f : 0 / b ≡ 0 = omega arith in f)

pub share_within : (units part all : ℕ) → 0 < all → part ≤ all → units * part / all ≤ units
share_within units part all some within = part_within units part all within

-- where nothing is produced nothing is added
no_late : (s : Setting) (c : Counts) (d origin slot : ℕ) → produced_in s origin d slot ≡ 0 → late_in s c d origin slot ≡ 0
no_late s c d origin slot none =
    let part : ℕ = units_in s origin slot - arriving s c (s.place d) origin slot in
    ap (λ n. share_of n part (units_in s origin slot)) none ∙ zero_part part (units_in s origin slot)

no_twice : (units late time left : ℕ) → units ≡ 0 → late ≡ 0 → twice_of units late time left ≡ 0
no_twice units late time left none few = ap (λ n. twice_of n late time left) none ∙ ap (λ n. twice_of 0 n time left) few ∙ zeroes time left
  where
    zeroes : (time left : ℕ) → twice_of 0 0 time left ≡ 0
    zeroes time left = omega arith

twice_none : (s : Setting) (c : Counts) (d origin slot : ℕ) → produced_in s origin d slot ≡ 0 → twice_in s c d origin slot ≡ 0
twice_none s c d origin slot none = no_twice (produced_in s origin d slot) (late_in s c d origin slot) _ (twice_left s.step s.slots slot) none (no_late s c d origin slot none)

pub none_more : (a x : ℕ) → a ≡ 0 → x ≡ x + a
none_more a x none = omega arith

pub nothing_more : (s : Setting) (l : Loading) (origin slot d : ℕ) (sum : Sum) → produced_in s origin d slot ≡ 0 → IsMore s l origin slot d sum sum
nothing_more s l origin slot d sum none = record {
  twice_more = λ v c shows. none_more (twice_in s c d origin slot) sum.twice (twice_none s c d origin slot none);
  late_more = λ v c shows. none_more (late_in s c d origin slot) sum.late (no_late s c d origin slot none);
  small_twice = omega arith;
  small_late = omega arith;
}

-- what was read of a slot and of a destination
pub record IsRead (s : Setting) (origin slot d units all : ℕ) (at : At) : Type 0 where
  pub of_units : units ≡ produced_in s origin d slot
  pub of_all : all ≡ units_in s origin slot
  pub of_step : at.step.0 ≡ s.step
  pub of_slots : at.slots ≡ s.slots
  pub of_slot : at.slot ≡ slot

-- how many are late, and twice their time, are as they were read
late_read : (s : Setting) (l : Loading) (v : ℕ) (c : Counts) (origin slot d units all : ℕ) (at : At) (cut : Cut) → ShowsCounts s v c l → IsRead s origin slot d units all at → IsCut s l origin slot (s.place d) cut
    → share_of units (all - cut.arriving) all ≡ late_in s c d origin slot
late_read s l v c origin slot d units all at cut shows read is =
    ap (λ n. share_of n (all - cut.arriving) all) read.of_units
    ∙ ap (λ n. share_of (produced_in s origin d slot) (all - n) all) (is.arriving v c shows)
    ∙ ap (λ n. share_of (produced_in s origin d slot) (n - arriving s c (s.place d) origin slot) n) read.of_all

time_read : (s : Setting) (l : Loading) (v : ℕ) (c : Counts) (origin slot d units all : ℕ) (at : At) (cut : Cut) (first : Option Millis) → ShowsCounts s v c l → IsRead s origin slot d units all at → IsCut s l origin slot (s.place d) cut
    → millis_of first ≡ earliest s c origin slot (produced_in_all s origin slot) (s.place d)
    → twice_time at.step.0 at.slot (millis_of first) (millis_of cut.last)
    ≡ twice_time s.step slot (earliest s c origin slot (produced_in_all s origin slot) (s.place d)) (earliest s c origin slot (produced_in_all s origin slot + arriving s c (s.place d) origin slot) (s.place d))
time_read s l v c origin slot d units all at cut first shows read is begins =
    let begin : Option ℕ = earliest s c origin slot (produced_in_all s origin slot) (s.place d) in
    ap (λ n. twice_time n at.slot (millis_of first) (millis_of cut.last)) read.of_step
    ∙ ap (λ n. twice_time s.step n (millis_of first) (millis_of cut.last)) read.of_slot
    ∙ ap (λ o. twice_time s.step slot o (millis_of cut.last)) begins
    ∙ ap (λ o. twice_time s.step slot begin o) (is.last.is v c shows)
    ∙ ap (λ n. twice_time s.step slot begin (earliest s c origin slot (produced_in_all s origin slot + n) (s.place d))) (is.arriving v c shows)

pub more_of : (s : Setting) (l : Loading) (origin slot d units all late : ℕ) (at : At) (cut : Cut) (first : Option Millis) (old new : Sum) → IsRead s origin slot d units all at → IsCut s l origin slot (s.place d) cut
    → late ≡ share_of units (all - cut.arriving) all
    → ((v : ℕ) (c : Counts) → ShowsCounts s v c l → millis_of first ≡ earliest s c origin slot (produced_in_all s origin slot) (s.place d))
    → new.twice ≡ old.twice + twice_of units late (twice_time at.step.0 at.slot (millis_of first) (millis_of cut.last)) (twice_left at.step.0 at.slots at.slot)
    → new.late ≡ old.late + late → new.twice ≤ old.twice + 2 ^ 84 → new.late ≤ old.late + 2 ^ 53 → IsMore s l origin slot d old new
more_of s l origin slot d units all late at cut first old new read is so begins twice more small_twice small_late = record {
  twice_more = λ v c shows.
      let lates : late ≡ late_in s c d origin slot = so ∙ late_read s l v c origin slot d units all at cut shows read is in
      let time : ℕ = twice_time at.step.0 at.slot (millis_of first) (millis_of cut.last) in
      let left : ℕ = twice_left at.step.0 at.slots at.slot in
      twice
      ∙ ap (λ n. old.twice + twice_of n late time left) read.of_units
      ∙ ap (λ n. old.twice + twice_of (produced_in s origin d slot) n time left) lates
      ∙ ap (λ n. old.twice + twice_of (produced_in s origin d slot) (late_in s c d origin slot) n left) (time_read s l v c origin slot d units all at cut first shows read is (begins v c shows))
      ∙ ap (λ n. old.twice + twice_of (produced_in s origin d slot) (late_in s c d origin slot)
      (twice_time s.step slot (earliest s c origin slot (produced_in_all s origin slot) (s.place d)) (earliest s c origin slot (produced_in_all s origin slot + arriving s c (s.place d) origin slot) (s.place d))) n) left_read;
  late_more = λ v c shows. more ∙ ap (λ n. old.late + n) (so ∙ late_read s l v c origin slot d units all at cut shows read is);
  small_twice = small_twice;
  small_late = small_late;
}
  where
    left_read : twice_left at.step.0 at.slots at.slot ≡ twice_left s.step s.slots slot
    left_read =
        ap (λ n. twice_left n at.slots at.slot) read.of_step
        ∙ ap (λ n. twice_left s.step n at.slot) read.of_slots
        ∙ ap (λ n. twice_left s.step s.slots n) read.of_slot

-- ---- of one destination more
pub one_more : (s : Setting) (l : Loading) (origin slot below : ℕ) (old mid : List Sum) (sum : Sum) → below < length mid → IsMore s l origin slot below (sum_at mid below) sum → AddsBelow s l origin slot below old mid
    → AddsBelow s l origin slot (below + 1) old (slice_set mid below sum)
one_more s l origin slot below old mid sum low more adds = record {
  count = length-set mid below sum ∙ adds.count;
  added = λ d l'. elim (cases_eq d below) [
    | inl same ↦
        let at : sum_at (slice_set mid below sum) d ≡ sum = ap (sum_at (slice_set mid below sum)) same ∙ get_or-set_same mid below sum no_sum low in
        let was : sum_at old d ≡ sum_at mid below = sym (adds.others d (omega arith)) ∙ ap (sum_at mid) same in
        subst (λ (z : Sum). IsMore s l origin slot d z (sum_at (slice_set mid below sum) d)) (sym was)
        (subst (λ (z : Sum). IsMore s l origin slot d (sum_at mid below) z) (sym at) (subst (λ e. IsMore s l origin slot e (sum_at mid below) sum) (sym same) more))
    | inr other ↦ subst (λ (z : Sum). IsMore s l origin slot d (sum_at old d) z) (sym (get_or-set_other mid below d sum no_sum other)) (adds.added d (omega arith))
  ];
  others = λ d l'. get_or-set_other mid below d sum no_sum (λ same. absurd (omega arith)) ∙ adds.others d (omega arith);
}

-- ---- of a whole slot
pub slot_added : (s : Setting) (l : Loading) (origin slot below : ℕ) (old new : List Sum) → s.destinations ≤ below → AddsBelow s l origin slot below old new → AddsSlot s l origin slot old new
slot_added s l origin slot below old new all adds = record {
  twice_more = λ v c shows d low. (adds.added d (omega arith)).twice_more v c shows;
  late_more = λ v c shows d low. (adds.added d (omega arith)).late_more v c shows;
}

-- where an origin produces nothing in a slot, nothing is added
none_of : (s : Setting) (origin slot d : ℕ) → IsSetting s → origin < s.nodes → slot < s.slots → d < s.destinations → total s.destinations (s.produced origin) (slot + 1) ≤ total s.destinations (s.produced origin) slot → produced_in s origin d slot ≡ 0
none_of s origin slot d is there within low same = elim (cases_lt (s.produced origin d slot) (s.produced origin d (slot + 1))) [
  | inl more ↦
      let less = sum_below-lt s.destinations (λ e. s.produced origin e slot) (λ e. s.produced origin e (slot + 1)) d low (λ e l. is.produced_rises origin there e slot l within) more in
      absurd (omega arith)
  | inr none ↦ omega arith
]

pub nothing_added : (s : Setting) (l : Loading) (origin slot : ℕ) (sums : List Sum) → IsSetting s → origin < s.nodes → slot < s.slots → total s.destinations (s.produced origin) (slot + 1) ≤ total s.destinations (s.produced origin) slot
    → AddsSlot s l origin slot sums sums
nothing_added s l origin slot sums is there within same = record {
  twice_more = λ v c shows d low. none_more (twice_in s c d origin slot) (sum_at sums d).twice (twice_none s c d origin slot (none_of s origin slot d is there within low same));
  late_more = λ v c shows d low. none_more (late_in s c d origin slot) (sum_at sums d).late (no_late s c d origin slot (none_of s origin slot d is there within low same));
}

-- ---- one more
pub adds_more : (s : Setting) (l : Loading) (n : ℕ) (f g : Counts → ℕ → ℕ → ℕ) (old mid new : List Sum) → Adds s l (λ c d. sum_below n (f c d)) (λ c d. sum_below n (g c d)) old mid → Adds s l (λ c d. f c d n) (λ c d. g c d n) mid new
    → Adds s l (λ c d. sum_below (n + 1) (f c d)) (λ c d. sum_below (n + 1) (g c d)) old new
adds_more s l n f g old mid new before then = record {
  twice_more = λ v c shows d low.
      let a = before.twice_more v c shows d low in let b = then.twice_more v c shows d low in let e = sum_below_more (f c d) n in omega arith;
  late_more = λ v c shows d low.
      let a = before.late_more v c shows d low in let b = then.late_more v c shows d low in let e = sum_below_more (g c d) n in omega arith;
}

pub sums_more : (m n : ℕ) (sums : List Sum) → m ≤ n → AreSums m sums → AreSums n sums
sums_more m n sums l are = λ d. (let h = (are d).0 in omega arith, let h = (are d).1 in omega arith)

-- ---- what is told
pub sum_of_none : (n d : ℕ) → sum_at (replicate n no_sum) d ≡ no_sum
sum_of_none zero d = refl
sum_of_none (suc n) zero = refl
sum_of_none (suc n) (suc d) = sum_of_none n d

pub gap_to : (s : Setting) (l : Loading) (v : ℕ) (c : Counts) (g : Gaps) (d : ℕ) (sum : Sum) (gap : Gap) → d < length g.sums.items → sum ≡ sum_at g.sums.items d → gap.least ≡ sum.twice / 2 → gap.late ≡ sum.late
    → AreGaps s l g → ShowsCounts s v c l → IsGapTo s c d gap
gap_to s l v c g d sum gap low is least late are shows =
    let there : d < s.destinations = subst (λ n. d < n) are.one_for_each low in
    record {
      least = least ∙ ap (λ (x : Sum). x.twice / 2) is ∙ ap (λ n. n / 2) (are.twice v c shows d there);
      late = late ∙ ap (λ (x : Sum). x.late) is ∙ are.late v c shows d there;
    }

pub gap_in_all : (s : Setting) (l : Loading) (v : ℕ) (c : Counts) (g : Gaps) (n : ℕ) (gap : Gap) → n ≡ length g.sums.items → gap.least ≡ sum_below n (λ d. (sum_at g.sums.items d).twice / 2) → gap.late ≡ sum_below n (λ d. (sum_at g.sums.items d).late)
    → AreGaps s l g → ShowsCounts s v c l → IsGap s c gap
gap_in_all s l v c g n gap long least late are shows =
    let all : n ≡ s.destinations = long ∙ are.one_for_each in
    record {
      least = least ∙ ap (λ m. sum_below m (λ d. (sum_at g.sums.items d).twice / 2)) all
          ∙ sum_below-same s.destinations (λ d. (sum_at g.sums.items d).twice / 2) (least_to s c) (λ d low. ap (λ m. m / 2) (are.twice v c shows d low));
      late = late ∙ ap (λ m. sum_below m (λ d. (sum_at g.sums.items d).late)) all
          ∙ sum_below-same s.destinations (λ d. (sum_at g.sums.items d).late) (late_to s c) (λ d low. are.late v c shows d low);
    }
