-- Lists that grow at the end, thing by thing.
use Rattle.std.proofs.Common.{◌≡◌, ℕ, ◌+◌, ◌<◌, List, [], ◌∷◌, ◌++◌, length, slice_index_or, arith, sym, ap, subst, ◌∙◌, inl, inr}
use Rattle.std.proofs.lemmas.Bool.{cases_eq}
use Rattle.std.proofs.lemmas.List.{length_push, get_or_append_left, get_or_push}

-- a list of so many things, of each of which something holds by its place
pub record AreAll (A : Type 0) (P : ℕ → A → Type 0) (n : ℕ) (xs : List A) : Type 0 where
  pub long : length xs ≡ n
  pub each : (i : ℕ) (d : A) → i < n → P i (slice_index_or xs i d)

pub all_none : (A : Type 0) (P : ℕ → A → Type 0) (xs : List A) → xs ≡ [] → AreAll A P 0 xs
all_none A P xs e = record { long = ap length e; each = λ i d l. absurd (omega (arith, l)) }

pub all_more : (A : Type 0) (P : ℕ → A → Type 0) (n : ℕ) (xs ys : List A) (y : A) → ys ≡ xs ++ y ∷ [] → AreAll A P n xs → P n y → AreAll A P (n + 1) ys
all_more A P n xs ys y e h one = record {
  long = ap length e ∙ (length_push xs y ∙ omega (arith, h.long));
  each = λ i d l. elim (cases_eq i n) [
    | inl same ↦
        let at : slice_index_or ys i d ≡ y = ap (λ (zs : List A). slice_index_or zs i d) e ∙ get_or_push xs y d i (h.long ∙ sym same) in
        subst (P i) (sym at) (subst (λ (k : ℕ). P k y) (sym same) one)
    | inr other ↦
        let low : i < n = omega (arith, l, other) in
        let at : slice_index_or ys i d ≡ slice_index_or xs i d = ap (λ (zs : List A). slice_index_or zs i d) e ∙ get_or_append_left xs (y ∷ []) d i (omega (arith, low, h.long)) in
        subst (P i) (sym at) (h.each i d low)
  ];
}
