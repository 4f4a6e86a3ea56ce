-- Sums in parts: each origin is in one part, so all parts together are all origins.
use Rattle.std.proofs.Common.{◌≡◌, ℕ, zero, suc, ◌+◌, ◌*◌, ◌<◌, ◌==◌, inl, inr, true, false, List, length, replicate, if◌then◌else◌, refl, ap, sym, subst, arith, ◌∙◌}
use Rattle.std.specs.Prelude.{◌^◌, slice_set, slice_index}
use Rattle.std.proofs.lemmas.Bool.{cases_lt, cases_eq}
use Rattle.std.proofs.lemmas.Bool.Decides.{nat_tests}
use Rattle.std.proofs.lemmas.List.{length-set, length-replicate, get_or-replicate, get_or-set_same, get_or-set_other}
use Rattle.std.proofs.lemmas.List.Elements.{All-get_or}
use Rattle.ltm_units.specs.Sums.{sum_below}
use Rattle.ltm_units.proofs.Sums.{sum_below-same, sum_below-swap, sum_below-zero, sum_below_more}
use Rattle.ltm_loading.specs.Setting.{Setting}
use Rattle.ltm_flows.specs.declared.loading.Loading.{Loading}
use Rattle.ltm_gap.specs.declared.sums.Sum.{Sum}
use Rattle.ltm_gap.specs.declared.gaps.Gaps.{Gaps}
use Rattle.ltm_gap.specs.Steps.{no_sum, sum_at, AreSums, Adds, AddsSlots}
use Rattle.ltm_gap.specs.Told.{AreGaps}
use Rattle.ltm_gap.specs.Parts.{AreDealt, of_part, twice_from, late_from, AddsOwned, AddsPart, IsPart, AreJoined, IsBoth, BothBelow}
use Rattle.ltm_gap.proofs.Adding.{none_more, sum_of_none}

-- ---- an origin counts in its own part alone
one_owner : (parts owner a : ℕ) → owner < parts → sum_below parts (λ p. if owner == p then a else 0) ≡ a
one_owner zero owner a low = absurd (omega arith)
one_owner (suc n) owner a low = elim (cases_eq owner n) [
  | inl same ↦
      let here : (owner == n) ≡ true = grind (arith, nat_tests) in
      let last : (if owner == n then a else 0) ≡ a = ap (λ b. if b then a else 0) here in
      let before : sum_below n (λ p. if owner == p then a else 0) ≡ 0 = sum_below-zero n (λ p. if owner == p then a else 0) (λ k l. ap (λ b. if b then a else 0) (let other : (owner == k) ≡ false = grind (arith, nat_tests) in other)) in
      omega arith
  | inr other ↦
      let not : (owner == n) ≡ false = grind (arith, nat_tests) in
      let last : (if owner == n then a else 0) ≡ 0 = ap (λ b. if b then a else 0) not in
      let before : sum_below n (λ p. if owner == p then a else 0) ≡ a = one_owner n owner a (omega arith) in
      omega arith
]

all_owned : (owners : List ℕ) (parts origins : ℕ) (f : ℕ → ℕ) → AreDealt parts origins owners → sum_below parts (λ p. sum_below origins (of_part owners p f)) ≡ sum_below origins f
all_owned owners parts origins f dealt =
    sum_below-swap parts origins (λ p o. of_part owners p f o)
    ∙ sum_below-same origins (λ o. sum_below parts (λ p. of_part owners p f o)) f
    (λ o low. one_owner parts (slice_index owners o) (f o) (All-get_or (λ part. part < parts) owners o 0 (let long = dealt.one_for_each in omega arith) dealt.within))

-- ---- one origin of a part
pub adds_owned : (s : Setting) (l : Loading) (owners : List ℕ) (part origin : ℕ) (old new : List Sum) → slice_index owners origin ≡ part → AddsSlots s l origin s.slots old new → AddsOwned s l owners part origin old new
adds_owned s l owners part origin old new is adds =
    let here : (slice_index owners origin == part) ≡ true = grind (arith, nat_tests) in
    subst (λ b. Adds s l (λ c d. if b then twice_from s c d origin else 0) (λ c d. if b then late_from s c d origin else 0) old new) (sym here) adds

pub adds_none : (s : Setting) (l : Loading) (owners : List ℕ) (part origin : ℕ) (sums : List Sum) → (slice_index owners origin ≡ part → ⊥) → AddsOwned s l owners part origin sums sums
adds_none s l owners part origin sums not =
    let other : (slice_index owners origin == part) ≡ false = grind (arith, nat_tests) in
    subst (λ b. Adds s l (λ c d. if b then twice_from s c d origin else 0) (λ c d. if b then late_from s c d origin else 0) sums sums) (sym other)
    (record {
      twice_more = λ v c shows d low. none_more 0 (sum_at sums d).twice refl;
      late_more = λ v c shows d low. none_more 0 (sum_at sums d).late refl;
    })

-- ---- a part from nothing
pub is_part : (s : Setting) (l : Loading) (owners : List ℕ) (part origins n : ℕ) (sums : List Sum) → origins ≡ s.nodes → length sums ≡ s.destinations → AddsPart s l owners part origins (replicate n no_sum) sums → AreSums (2 ^ 30) sums
    → IsPart s l owners part sums
is_part s l owners part origins n sums all long adds small = record {
  one_for_each = long;
  twice = λ v c shows d low.
      let a = adds.twice_more v c shows d low in
      let none : (sum_at (replicate n no_sum) d).twice ≡ 0 = ap (λ (x : Sum). x.twice) (sum_of_none n d) in
      let e : (sum_at sums d).twice ≡ sum_below origins (of_part owners part (twice_from s c d)) = omega arith in
      e ∙ ap (λ m. sum_below m (of_part owners part (twice_from s c d))) all;
  late = λ v c shows d low.
      let a = adds.late_more v c shows d low in
      let none : (sum_at (replicate n no_sum) d).late ≡ 0 = ap (λ (x : Sum). x.late) (sum_of_none n d) in
      let e : (sum_at sums d).late ≡ sum_below origins (of_part owners part (late_from s c d)) = omega arith in
      e ∙ ap (λ m. sum_below m (of_part owners part (late_from s c d))) all;
  small = small;
}

-- ---- one destination more of two sums
pub one_both : (below : ℕ) (old more mid : List Sum) (sum : Sum) → below < length mid → IsBoth (sum_at mid below) (sum_at more below) sum → BothBelow below old more mid → BothBelow (below + 1) old more (slice_set mid below sum)
one_both below old more mid sum low both adds = record {
  count = length-set mid below sum ∙ adds.count;
  added = λ d l. elim (cases_eq d below) [
    | inl same ↦
        let at : sum_at (slice_set mid below sum) d ≡ sum = ap (sum_at (slice_set mid below sum)) same ∙ get_or-set_same mid below sum no_sum low in
        let was : sum_at old d ≡ sum_at mid below = sym (adds.others d (omega arith)) ∙ ap (sum_at mid) same in
        subst (λ (z : Sum). IsBoth z (sum_at more d) (sum_at (slice_set mid below sum) d)) (sym was)
        (subst (λ (z : Sum). IsBoth (sum_at mid below) (sum_at more d) z) (sym at) (subst (λ e. IsBoth (sum_at mid below) (sum_at more e) sum) (sym same) both))
    | inr other ↦ subst (λ (z : Sum). IsBoth (sum_at old d) (sum_at more d) z) (sym (get_or-set_other mid below d sum no_sum other)) (adds.added d (omega arith))
  ];
  others = λ d l. get_or-set_other mid below d sum no_sum (λ same. absurd (omega arith)) ∙ adds.others d (omega arith);
}

-- ---- the parts together
pub none_joined : (s : Setting) (l : Loading) (owners : List ℕ) (sums : List Sum) → sums ≡ replicate s.destinations no_sum → AreJoined s l owners 0 sums
none_joined s l owners sums is = record {
  one_for_each = ap length is ∙ length-replicate s.destinations no_sum;
  twice = λ v c shows d low. ap (λ (x : List Sum). (sum_at x d).twice) is ∙ ap (λ (x : Sum). x.twice) (sum_of_none s.destinations d);
  late = λ v c shows d low. ap (λ (x : List Sum). (sum_at x d).late) is ∙ ap (λ (x : Sum). x.late) (sum_of_none s.destinations d);
  small = λ d. (
    let e : (sum_at sums d).twice ≡ 0 = ap (λ (x : List Sum). (sum_at x d).twice) is ∙ ap (λ (x : Sum). x.twice) (sum_of_none s.destinations d) in omega arith,
    let e : (sum_at sums d).late ≡ 0 = ap (λ (x : List Sum). (sum_at x d).late) is ∙ ap (λ (x : Sum). x.late) (sum_of_none s.destinations d) in omega arith,
  );
}

both_small : (m n below : ℕ) (old more new : List Sum) → AreSums m old → AreSums n more → BothBelow below old more new → AreSums (m + n) new
both_small m n below old more new first second both = λ d. elim (cases_lt d below) [
  | inl low ↦
      let is = both.added d low in
      let a = first d in
      let b = second d in
      let t = is.twice in
      let u = is.late in
      (omega (arith, a.0, b.0, t), omega (arith, a.1, b.1, u))
  | inr past ↦
      let e = both.others d past in
      let a = first d in
      let t : (sum_at new d).twice ≡ (sum_at old d).twice = ap (λ (x : Sum). x.twice) e in
      let u : (sum_at new d).late ≡ (sum_at old d).late = ap (λ (x : Sum). x.late) e in
      (omega (arith, a.0, t), omega (arith, a.1, u))
]

pub one_joined : (s : Setting) (l : Loading) (owners : List ℕ) (part : ℕ) (old more new : List Sum) → AreJoined s l owners part old → IsPart s l owners part more → BothBelow (length old) old more new → AreJoined s l owners (part + 1) new
one_joined s l owners part old more new before is both = record {
  one_for_each = both.count ∙ before.one_for_each;
  twice = λ v c shows d low.
      let long = before.one_for_each in
      let a = (both.added d (omega arith)).twice in
      let b = before.twice v c shows d low in
      let m = is.twice v c shows d low in
      let e = sum_below_more (λ p. sum_below s.nodes (of_part owners p (twice_from s c d))) part in
      omega arith;
  late = λ v c shows d low.
      let long = before.one_for_each in
      let a = (both.added d (omega arith)).late in
      let b = before.late v c shows d low in
      let m = is.late v c shows d low in
      let e = sum_below_more (λ p. sum_below s.nodes (of_part owners p (late_from s c d))) part in
      omega arith;
  small = λ d. let h = both_small (part * 2 ^ 30) (2 ^ 30) (length old) old more new before.small is.small both d in (omega (arith, h.0), omega (arith, h.1));
}

-- ---- all of them
pub gaps_joined : (s : Setting) (l : Loading) (owners : List ℕ) (parts : ℕ) (sums : List Sum) (g : Gaps) → g.sums.items ≡ sums → AreDealt parts s.nodes owners → AreJoined s l owners parts sums → AreGaps s l g
gaps_joined s l owners parts sums g is dealt joined = record {
  one_for_each = ap length is ∙ joined.one_for_each;
  twice = λ v c shows d low. ap (λ (x : List Sum). (sum_at x d).twice) is ∙ joined.twice v c shows d low ∙ all_owned owners parts s.nodes (twice_from s c d) dealt;
  late = λ v c shows d low. ap (λ (x : List Sum). (sum_at x d).late) is ∙ joined.late v c shows d low ∙ all_owned owners parts s.nodes (late_from s c d) dealt;
}

-- one part of all origins
owned_alone : (n : ℕ) (f : ℕ → ℕ) → sum_below n (of_part (replicate n 0) 0 f) ≡ sum_below n f
owned_alone n f = sum_below-same n (of_part (replicate n 0) 0 f) f (λ o low. ap (λ w. if w == 0 then f o else 0) (get_or-replicate n o 0 0 low))

pub gaps_alone : (s : Setting) (l : Loading) (owners : List ℕ) (sums : List Sum) (g : Gaps) → g.sums.items ≡ sums → owners ≡ replicate s.nodes 0 → IsPart s l owners 0 sums → AreGaps s l g
gaps_alone s l owners sums g is own part = record {
  one_for_each = ap length is ∙ part.one_for_each;
  twice = λ v c shows d low.
      ap (λ (x : List Sum). (sum_at x d).twice) is ∙ part.twice v c shows d low ∙ ap (λ (x : List ℕ). sum_below s.nodes (of_part x 0 (twice_from s c d))) own ∙ owned_alone s.nodes (twice_from s c d);
  late = λ v c shows d low.
      ap (λ (x : List Sum). (sum_at x d).late) is ∙ part.late v c shows d low ∙ ap (λ (x : List ℕ). sum_below s.nodes (of_part x 0 (late_from s c d))) own ∙ owned_alone s.nodes (late_from s c d);
}
