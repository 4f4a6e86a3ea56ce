-- Amounts by index, with one more at the end.
use Rattle.std.proofs.Common.{◌≡◌, ℕ, ◌+◌, ◌<◌, List, [], ◌∷◌, ◌++◌, length, map, slice_index, arith, inl, inr, refl, sym, ap, ◌∙◌}
use Rattle.std.proofs.lemmas.Bool.{cases_eq}
use Rattle.std.proofs.lemmas.List.{length-map, get_or_push, get_or_append_left}

map_push : {A : Type 0} (value : A → ℕ) (xs : List A) (x : A) → map value (xs ++ x ∷ []) ≡ map value xs ++ value x ∷ []
map_push value [] x = refl
map_push value (y ∷ xs) x = ap (λ (l : List ℕ). value y ∷ l) (map_push value xs x)

pub pushed : {A : Type 0} (value : A → ℕ) (xs : List A) (x : A) (i : ℕ) (goal : ℕ → ℕ) → length xs ≡ i → value x ≡ goal i → ((k : ℕ) → k < i → slice_index (map value xs) k ≡ goal k) →
    (k : ℕ) → k < i + 1 → slice_index (map value (xs ++ x ∷ [])) k ≡ goal k
pushed value xs x i goal long here before k m =
    let long' : length (map value xs) ≡ i = length-map xs value ∙ long in
    ap (λ (ys : List ℕ). slice_index ys k) (map_push value xs x)
    ∙ elim (cases_eq k i) [
      | inl same ↦ get_or_push (map value xs) (value x) 0 k (long' ∙ sym same) ∙ (here ∙ ap goal (sym same))
      | inr other ↦ get_or_append_left (map value xs) (value x ∷ []) 0 k (omega (arith, long')) ∙ before k (omega arith)
    ]
