-- When two rows differ.
use Rattle.std.proofs.Common.{◌≡◌, ℕ, ◌+◌, ◌<◌, ◌≤◌, ◌⊎◌, arith, inl, inr, ap, sym, refl, ◌∙◌, true, false, List}
use Rattle.std.specs.Prelude.{Option, Some, None, ◌==◌, nat_lt, Decides}
use Rattle.std.specs.Cmp.Lexicographic.{pointwise, pointwise_decides}
use Rattle.std.proofs.lemmas.Bool.{cases_Bool, lt-ltb, le-ltb}
use Rattle.std.proofs.lemmas.Bool.Decides.{Decides-eqb}
use Rattle.ltm_curve.specs.Counts.{Counts}
use Rattle.ltm_loading.specs.Setting.{Setting}
use Rattle.ltm_loading.specs.Pairs.{pair_row}
use Rattle.ltm_loading.specs.Differing.{unlike, row_of}

same_decides : (x y : List ℕ) → Decides (pointwise ◌==◌ x y) (x ≡ y)
same_decides x y = pointwise_decides Decides-eqb x y

pub unlike_cases : (a b : Option (List ℕ)) → ((a ≡ b) × (unlike a b ≡ 0)) ⊎ ((a ≡ b → ⊥) × (unlike a b ≡ 1))
unfolding unlike
unlike_cases None None = inl (refl, refl)
unlike_cases None (Some y) = inr ((λ h. cc), refl)
unlike_cases (Some x) None = inr ((λ h. cc), refl)
unlike_cases (Some x) (Some y) =
    elim (cases_Bool (pointwise ◌==◌ x y)) [
      | inl same ↦ inl (ap (λ z. Some z) ((same_decides x y).0 same), rw same refl)
      | inr other ↦ inr ((λ h. let e : x ≡ y = cc in let s : pointwise ◌==◌ x y ≡ true = (same_decides x y).1 e in cc), rw other refl)
    ]

pub unlike_same : (a b : Option (List ℕ)) → a ≡ b → unlike a b ≡ 0
unlike_same a b h = elim (unlike_cases a b) [ inl same ↦ same.1 | inr other ↦ absurd (other.0 h) ]

pub unlike_other : (a b : Option (List ℕ)) → (a ≡ b → ⊥) → unlike a b ≡ 1
unlike_other a b h = elim (unlike_cases a b) [ inl same ↦ absurd (h same.0) | inr other ↦ other.1 ]

pub unlike_le : (a b : Option (List ℕ)) → unlike a b ≤ 1
unlike_le a b = elim (unlike_cases a b) [ inl same ↦ let e = same.1 in omega arith | inr other ↦ let e = other.1 in omega arith ]

pub unlike_sym : (a b : Option (List ℕ)) → unlike a b ≡ unlike b a
unlike_sym a b = elim (unlike_cases a b) [
  | inl same ↦ same.1 ∙ sym (unlike_same b a (sym same.0))
  | inr other ↦ other.1 ∙ sym (unlike_other b a (λ h. other.0 (sym h)))
]

pub unlike_triangle : (a b c : Option (List ℕ)) → unlike a c ≤ unlike a b + unlike b c
unlike_triangle a b c = elim (unlike_cases a b) [
  | inl same ↦ let e : unlike a c ≡ unlike b c = ap (λ x. unlike x c) same.0 in omega arith
  | inr other ↦ let e : unlike a b ≡ 1 = other.1 in let l : unlike a c ≤ 1 = unlike_le a c in omega arith
]

pub row_of_old : (s : Setting) (c : Counts) (u t : ℕ) → t < s.slots → row_of s c u t ≡ Some (pair_row s c u t)
row_of_old s c u t l = let h : nat_lt t s.slots ≡ true = lt-ltb t s.slots l in rw h refl

pub row_of_new : (s : Setting) (c : Counts) (u t : ℕ) → s.slots ≤ t → row_of s c u t ≡ None
row_of_new s c u t l = let h : nat_lt t s.slots ≡ false = le-ltb t s.slots l in rw h refl
