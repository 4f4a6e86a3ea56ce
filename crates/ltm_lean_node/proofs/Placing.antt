-- Places of numbers that rise.
use Rattle.std.proofs.Common.{◌≡◌, ◌≢◌, ℕ, zero, suc, ◌+◌, ◌<◌, ◌≤◌, List, [], ◌∷◌, ◌++◌, length, slice_index, slice_set, arith, sym, ap, subst, ◌∙◌, inl, inr, get_or-set_same, get_or-set_other}
use Rattle.std.proofs.lemmas.Bool.{cases_lt, cases_eq}
use Rattle.std.proofs.lemmas.List.{length-set, length_push, get_or_append_left, get_or_push}
use Rattle.ltm_standing.specs.Listed.{Ascends, NotIn}
use Rattle.ltm_standing.proofs.Thin.{ascends_from}
use Rattle.ltm_lean_node.specs.Places.{Rises, AreApart}

-- numbers in order rise
pub ascends_rise : (from before : ℕ) (us : List ℕ) → Ascends from before us → Rises us
ascends_rise from before [] h i j l m = absurd (omega (arith, m))
ascends_rise from before (u ∷ us) h i zero l m = absurd (omega (arith, l))
ascends_rise from before (u ∷ us) h zero (suc j) l m = let low : u + 1 ≤ slice_index us j = ascends_from (u + 1) before us h.1.1 j (omega (arith, m)) in omega (arith, low)
ascends_rise from before (u ∷ us) h (suc i) (suc j) l m = ascends_rise (u + 1) before us h.1.1 i j (omega (arith, l)) (omega (arith, m))

-- a number that the first place from which on there are none below it does not have is nowhere
pub nowhere : (outer : List ℕ) (number at : ℕ) → Rises outer → ((x : ℕ) → x < at → slice_index outer x < number) → (at < length outer → number ≤ slice_index outer at) → (at < length outer → slice_index outer at ≢ number) → NotIn outer number
nowhere outer number at rise before here other x l e =
    elim (cases_lt x at) [
      | inl low ↦ omega (arith, before x low, e)
      | inr high ↦ elim (cases_eq x at) [
        | inl same ↦ other (omega (arith, same, l)) (sym (ap (slice_index outer) same) ∙ e)
        | inr past ↦ let more : slice_index outer at < slice_index outer x = rise at x (omega (arith, high, past)) l in omega (arith, more, e, here (omega (arith, high, l)))
      ]
    ]

-- the places of the first numbers
pub record PlacedTo (inner outer places : List ℕ) (at n : ℕ) : Type 0 where
  pub long : length places ≡ n
  pub within : at ≤ length outer
  pub before : n < length inner → (x : ℕ) → x < at → slice_index outer x < slice_index inner n
  pub there : (i : ℕ) → i < n → slice_index places i < length outer → slice_index outer (slice_index places i) ≡ slice_index inner i
  pub none : (i : ℕ) → i < n → length outer ≤ slice_index places i → NotIn outer (slice_index inner i)

pub placed_none : (inner outer places : List ℕ) → places ≡ [] → PlacedTo inner outer places 0 0
placed_none inner outer places e = record {
  long = ap length e;
  within = omega arith;
  before = λ l x m. absurd (omega (arith, m));
  there = λ i l. absurd (omega (arith, l));
  none = λ i l. absurd (omega (arith, l));
}

pub placed_more : (inner outer places next : List ℕ) (at n to place : ℕ) → Rises inner → Rises outer → n < length inner → PlacedTo inner outer places at n → to ≤ length outer → ((x : ℕ) → x < to → slice_index outer x < slice_index inner n)
    → (to < length outer → slice_index inner n ≤ slice_index outer to) → (place < length outer → slice_index outer place ≡ slice_index inner n) → (length outer ≤ place → to < length outer → slice_index outer to ≢ slice_index inner n)
    → next ≡ places ++ place ∷ [] → PlacedTo inner outer next to (n + 1)
placed_more inner outer places next at n to place rise up l h within before here there none e =
    let early : (i : ℕ) → i < n → slice_index next i ≡ slice_index places i = λ i m. ap (λ (xs : List ℕ). slice_index xs i) e ∙ get_or_append_left places (place ∷ []) 0 i (omega (arith, m, h.long)) in
    let last : slice_index next n ≡ place = ap (λ (xs : List ℕ). slice_index xs n) e ∙ get_or_push places place 0 n h.long in
    record {
      long = ap length e ∙ (length_push places place ∙ omega (arith, h.long));
      within = within;
      before = λ m x y. omega (arith, before x y, rise n (n + 1) (omega arith) m);
      there = λ i m small. elim (cases_eq i n) [
        | inl same ↦
            let at_end : slice_index next i ≡ place = ap (slice_index next) same ∙ last in
            ap (slice_index outer) at_end ∙ (there (omega (arith, small, at_end)) ∙ ap (slice_index inner) (sym same))
        | inr other ↦
            let low : i < n = omega (arith, m, other) in
            ap (slice_index outer) (early i low) ∙ h.there i low (omega (arith, small, early i low))
      ];
      none = λ i m large. elim (cases_eq i n) [
        | inl same ↦
            let at_end : slice_index next i ≡ place = ap (slice_index next) same ∙ last in
            subst (λ (z : ℕ). NotIn outer (slice_index inner z)) (sym same) (nowhere outer (slice_index inner n) to up before here (none (omega (arith, large, at_end))))
        | inr other ↦ let low : i < n = omega (arith, m, other) in h.none i low (omega (arith, large, early i low))
      ];
    }

-- the first numbers are written at their places
pub record Scattered (numbers places row : List ℕ) (wide n : ℕ) : Type 0 where
  pub long : length row ≡ wide
  pub here : (i : ℕ) → i < n → slice_index places i < wide → slice_index row (slice_index places i) ≡ slice_index numbers i
  pub others : (x : ℕ) → x < wide → ((i : ℕ) → i < n → slice_index places i ≢ x) → slice_index row x ≡ 0

pub scattered_none : (numbers places row : List ℕ) (wide : ℕ) → length row ≡ wide → ((x : ℕ) → x < wide → slice_index row x ≡ 0) → Scattered numbers places row wide 0
scattered_none numbers places row wide long zeros = record { long = long; here = λ i l. absurd (omega (arith, l)); others = λ x l h. zeros x l }

pub scattered_over : (numbers places row : List ℕ) (wide n : ℕ) → Scattered numbers places row wide n → wide ≤ slice_index places n → Scattered numbers places row wide (n + 1)
scattered_over numbers places row wide n h past = record {
  long = h.long;
  here = λ i l small. elim (cases_eq i n) [
    | inl same ↦ absurd (let e : slice_index places i ≡ slice_index places n = ap (slice_index places) same in omega (arith, small, past, e))
    | inr other ↦ h.here i (omega (arith, l, other)) small
  ];
  others = λ x l apart. h.others x l (λ i m. apart i (omega (arith, m)));
}

pub scattered_more : (numbers places row : List ℕ) (wide n at v : ℕ) → AreApart places wide → n < length places → Scattered numbers places row wide n → at ≡ slice_index places n → at < wide → v ≡ slice_index numbers n
    → Scattered numbers places (slice_set row at v) wide (n + 1)
scattered_more numbers places row wide n at v apart few h is l e = record {
  long = length-set row at v ∙ h.long;
  here = λ i m small. elim (cases_eq i n) [
    | inl same ↦
        let place : slice_index places i ≡ at = ap (slice_index places) same ∙ sym is in
        ap (slice_index (slice_set row at v)) place ∙ (get_or-set_same row at v 0 (omega (arith, l, h.long)) ∙ (e ∙ ap (slice_index numbers) (sym same)))
    | inr other ↦
        let low : i < n = omega (arith, m, other) in
        get_or-set_other row at (slice_index places i) v 0 (λ x. apart i n low few (omega (arith, is, l)) (x ∙ is)) ∙ h.here i low small
  ];
  others = λ x m none.
      get_or-set_other row at x v 0 (λ same. none n (omega arith) (sym is ∙ sym same)) ∙ h.others x m (λ i y. none i (omega (arith, y)));
}
