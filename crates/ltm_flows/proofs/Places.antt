-- A table is written place by place.
use Rattle.std.proofs.Common.{◌≡◌, ℕ, ◌+◌, ◌<◌, List, length, map, slice_index, slice_set, arith, inl, inr, ap, sym, ◌∙◌, get_or-set_same, get_or-set_other}
use Rattle.std.proofs.lemmas.Bool.{cases_eq}
use Rattle.std.proofs.lemmas.List.{map-set, length-map}

pub written : {A : Type 0} (value : A → ℕ) (xs : List A) (i : ℕ) (x : A) (goal : ℕ → ℕ) → i < length xs → value x ≡ goal i → ((k : ℕ) → k < i → slice_index (map value xs) k ≡ goal k) →
    (k : ℕ) → k < i + 1 → slice_index (map value (slice_set xs i x)) k ≡ goal k
written value xs i x goal l here before k m =
    ap (λ (ys : List ℕ). slice_index ys k) (map-set value xs i x)
    ∙ elim (cases_eq k i) [
      | inl same ↦
          ap (λ (z : ℕ). slice_index (slice_set (map value xs) i (value x)) z) same
          ∙ (get_or-set_same (map value xs) i (value x) 0 (omega (arith, length-map xs value)) ∙ (here ∙ ap goal (sym same)))
      | inr other ↦ get_or-set_other (map value xs) i k (value x) 0 other ∙ before k (omega arith)
    ]
