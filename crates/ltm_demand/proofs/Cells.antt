-- Places of a table with a width: slot times width plus column.
use Rattle.std.proofs.Common.{◌≡◌, ◌≢◌, ℕ, ◌+◌, ◌-◌, ◌*◌, ◌/◌, ◌<◌, ◌≤◌, List, length, slice_index, slice_set, refl, arith, ap, sym, subst, ◌∙◌, inl, inr}
use Rattle.std.proofs.lemmas.Nat.{div-mul-add, mul-add-lt}
use Rattle.std.proofs.lemmas.List.{get_or-set_same, get_or-set_other, length-set}
use Rattle.ltm_demand.specs.Productions.{IsOneOf}

-- a place tells its slot
pub slot_of : (w s t c e : ℕ) → c < w → e < w → t * w + e ≡ s * w + c → t ≡ s
slot_of w s t c e below under same = sym (div-mul-add t w e under) ∙ ap (λ n. n / w) same ∙ div-mul-add s w c below

pub apart_slots : (w s t c e : ℕ) → c < w → e < w → t ≢ s → t * w + e ≢ s * w + c
apart_slots w s t c e below under other same = other (slot_of w s t c e below under same)

pub apart_columns : (w s t c e : ℕ) → c < w → e < w → e ≢ c → t * w + e ≢ s * w + c
apart_columns w s t c e below under other same = let slot : t ≡ s = slot_of w s t c e below under same in let row : t * w ≡ s * w = ap (λ n. n * w) slot in other (omega arith)

-- a place of a slot below some slots lies within their numbers
pub within : (w s c n : ℕ) → c < w → s < n → s * w + c < n * w
within w s c n below slot = let h = mul-add-lt s w c n slot below in let e : w * n ≡ n * w = grind arith in omega arith

pub next_slot : (s w : ℕ) → (s + 1) * w ≡ s * w + w
next_slot s w = grind arith

module _ (units : List ℕ) (w s c v : ℕ) (below : c < w) (inside : s * w + c < length units) where
  pub set_here : slice_index (slice_set units (s * w + c) v) (s * w + c) ≡ v
  set_here = get_or-set_same units (s * w + c) v 0 inside

  pub set_slot : (t : ℕ) → t ≢ s → slice_index (slice_set units (s * w + c) v) (t * w + c) ≡ slice_index units (t * w + c)
  set_slot t other = get_or-set_other units (s * w + c) (t * w + c) v 0 (apart_slots w s t c c below below other)

  pub set_column : (e t : ℕ) → e < w → e ≢ c → slice_index (slice_set units (s * w + c) v) (t * w + e) ≡ slice_index units (t * w + e)
  set_column e t under other = get_or-set_other units (s * w + c) (t * w + e) v 0 (apart_columns w s t c e below under other)

-- ---- the first number of a slot and another, set one after the other
pub is_below : (w own c : ℕ) → own < w → IsOneOf own c → c < w
is_below w own c below which = elim which [
  | inl first ↦ omega (arith, first)
  | inr other ↦ omega (arith, other)
]

module _ (units : List ℕ) (w own s v : ℕ) (behind : 0 < own) (below : own < w) (fits : (s + 1) * w ≤ length units) where
  abbrev pub one : List ℕ
  one = slice_set units (s * w) v

  first_inside : s * w + 0 < length units
  first_inside = omega (arith, next_slot s w, fits)

  as_first : one ≡ slice_set units (s * w + 0) v
  as_first = let e : s * w ≡ s * w + 0 = omega arith in ap (λ n. slice_set units n v) e

  pub own_inside : s * w + own < length one
  own_inside = omega (arith, next_slot s w, fits, length-set units (s * w) v)

  pub one_own : slice_index one (s * w + own) ≡ slice_index units (s * w + own)
  one_own = ap (λ (xs : List ℕ). slice_index xs (s * w + own)) as_first ∙ set_column units w s 0 v (omega arith) first_inside own s below (omega arith)

  module _ (z : ℕ) where
    pub both_first : slice_index (slice_set one (s * w + own) z) (s * w + 0) ≡ v
    both_first = set_column one w s own z below own_inside 0 s (omega arith) (omega arith) ∙ (ap (λ (xs : List ℕ). slice_index xs (s * w + 0)) as_first ∙ set_here units w s 0 v (omega arith) first_inside)

    pub both_own : slice_index (slice_set one (s * w + own) z) (s * w + own) ≡ z
    both_own = set_here one w s own z below own_inside

    pub both_slot : (c t : ℕ) → c < w → t ≢ s → slice_index (slice_set one (s * w + own) z) (t * w + c) ≡ slice_index units (t * w + c)
    both_slot c t under other =
        get_or-set_other one (s * w + own) (t * w + c) z 0 (apart_slots w s t own c below under other)
        ∙ (ap (λ (xs : List ℕ). slice_index xs (t * w + c)) as_first ∙ get_or-set_other units (s * w + 0) (t * w + c) v 0 (apart_slots w s t 0 c (omega arith) under other))

    pub both_column : (c t : ℕ) → c < w → c ≢ 0 → c ≢ own → slice_index (slice_set one (s * w + own) z) (t * w + c) ≡ slice_index units (t * w + c)
    both_column c t under first other =
        set_column one w s own z below own_inside c t under other ∙ (ap (λ (xs : List ℕ). slice_index xs (t * w + c)) as_first ∙ set_column units w s 0 v (omega arith) first_inside c t under first)

-- ---- what an exchange in each of the two leaves
pub first_place : (units : List ℕ) (s w : ℕ) → slice_index units (s * w) ≡ slice_index units (s * w + 0)
first_place units s w = let e : s * w ≡ s * w + 0 = omega arith in ap (slice_index units) e

pub one_set : (units new : List ℕ) (w own s v : ℕ) → new ≡ slice_set units (s * w) v → 0 < own → own < w → (s + 1) * w ≤ length units → (s * w + own < length new) × (slice_index new (s * w + own) ≡ slice_index units (s * w + own))
one_set units new w own s v is behind below fits = (
  omega (arith, own_inside units w own s v behind below fits, ap length is),
  ap (λ (xs : List ℕ). slice_index xs (s * w + own)) is ∙ one_own units w own s v behind below fits,
)

-- both numbers of the slot are exchanged, and no other number changes
pub record BothSet (units new : List ℕ) (w own s gone come : ℕ) : Type 0 where
  pub len : length new ≡ length units
  pub here : (c : ℕ) → IsOneOf own c → slice_index new (s * w + c) + gone ≡ slice_index units (s * w + c) + come
  pub elsewhere : (c t : ℕ) → c < w → t ≢ s → slice_index new (t * w + c) ≡ slice_index units (t * w + c)
  pub others : (c t : ℕ) → c < w → c ≢ 0 → c ≢ own → slice_index new (t * w + c) ≡ slice_index units (t * w + c)

pub both_set : (units first new : List ℕ) (w own s gone come : ℕ) → first ≡ slice_set units (s * w) (slice_index units (s * w) - gone + come) → new ≡ slice_set first (s * w + own) (slice_index first (s * w + own) - gone + come) →
    0 < own → own < w → (s + 1) * w ≤ length units → ((c : ℕ) → IsOneOf own c → gone ≤ slice_index units (s * w + c)) → BothSet units new w own s gone come
both_set units first new w own s gone come first_is new_is behind below fits has =
    let v = slice_index units (s * w) - gone + come in
    let one : List ℕ = slice_set units (s * w) v in
    let z = slice_index one (s * w + own) - gone + come in
    let is : new ≡ slice_set one (s * w + own) z = new_is ∙ ap (λ (xs : List ℕ). slice_set xs (s * w + own) (slice_index xs (s * w + own) - gone + come)) first_is in
    record {
      len = ap length is ∙ (length-set one (s * w + own) z ∙ length-set units (s * w) v);
      here = λ c which. elim which [
        | inl zeroth ↦
            subst (λ n. slice_index new (s * w + n) + gone ≡ slice_index units (s * w + n) + come) (sym zeroth)
            (omega (arith, ap (λ (xs : List ℕ). slice_index xs (s * w + 0)) is, both_first units w own s v behind below fits z, first_place units s w, has 0 (inl refl)))
        | inr other ↦
            subst (λ n. slice_index new (s * w + n) + gone ≡ slice_index units (s * w + n) + come) (sym other)
            (omega (arith, ap (λ (xs : List ℕ). slice_index xs (s * w + own)) is, both_own units w own s v behind below fits z, one_own units w own s v behind below fits, has own (inr refl)))
      ];
      elsewhere = λ c t under other. ap (λ (xs : List ℕ). slice_index xs (t * w + c)) is ∙ both_slot units w own s v behind below fits z c t under other;
      others = λ c t under zeroth other. ap (λ (xs : List ℕ). slice_index xs (t * w + c)) is ∙ both_column units w own s v behind below fits z c t under zeroth other;
    }
