-- Filters that keep the front of a list, its end, one element or none.
use Rattle.std.proofs.Common.{◌≡◌, ℕ, zero, suc, ◌<◌, ◌≤◌, Bool, true, false, cond, List, [], ◌∷◌, length, get_or, take, drop, filter, arith, refl, ap, ◌∙◌}
use Rattle.std.specs.List.{AllByRecursion}

module _ {X : Type 0} (p : X → Bool) where
  -- nothing passes
  pub filter_none : (xs : List X) → ((k : ℕ) (d : X) → k < length xs → p (get_or xs k d) ≡ false) → filter p xs ≡ []
  filter_none [] fails = refl
  filter_none (x ∷ xs) fails = ap (λ b. cond b (x ∷ filter p xs) (filter p xs)) (fails zero x (omega arith)) ∙ filter_none xs (λ k d less. fails (suc k) d (omega arith))

  -- everything passes
  pub filter_all : (xs : List X) → ((k : ℕ) (d : X) → k < length xs → p (get_or xs k d) ≡ true) → filter p xs ≡ xs
  filter_all [] passes = refl
  filter_all (x ∷ xs) passes = ap (λ b. cond b (x ∷ filter p xs) (filter p xs)) (passes zero x (omega arith)) ∙ ap (λ t. x ∷ t) (filter_all xs (λ k d less. passes (suc k) d (omega arith)))

  -- what stands before a place passes, and nothing else
  pub filter_front : (xs : List X) (i : ℕ) → ((k : ℕ) (d : X) → k < i → k < length xs → p (get_or xs k d) ≡ true) → ((k : ℕ) (d : X) → i ≤ k → k < length xs → p (get_or xs k d) ≡ false) → filter p xs ≡ take i xs
  filter_front xs zero passes fails = filter_none xs (λ k d less. fails k d (omega arith) less)
  filter_front [] (suc i) passes fails = refl
  filter_front (x ∷ xs) (suc i) passes fails =
      ap (λ b. cond b (x ∷ filter p xs) (filter p xs)) (passes zero x (omega arith) (omega arith))
      ∙ ap (λ t. x ∷ t) (filter_front xs i (λ k d less inside. passes (suc k) d (omega arith) (omega arith)) (λ k d more inside. fails (suc k) d (omega arith) (omega arith)))

  -- what stands from a place on passes, and nothing else
  pub filter_back : (xs : List X) (i : ℕ) → ((k : ℕ) (d : X) → k < i → k < length xs → p (get_or xs k d) ≡ false) → ((k : ℕ) (d : X) → i ≤ k → k < length xs → p (get_or xs k d) ≡ true) → filter p xs ≡ drop i xs
  filter_back xs zero fails passes = filter_all xs (λ k d less. passes k d (omega arith) less)
  filter_back [] (suc i) fails passes = refl
  filter_back (x ∷ xs) (suc i) fails passes =
      ap (λ b. cond b (x ∷ filter p xs) (filter p xs)) (fails zero x (omega arith) (omega arith))
      ∙ filter_back xs i (λ k d less inside. fails (suc k) d (omega arith) (omega arith)) (λ k d more inside. passes (suc k) d (omega arith) (omega arith))

  -- one element passes
  pub filter_one : (xs : List X) (i : ℕ) (e : X) → i < length xs → ((d : X) → p (get_or xs i d) ≡ true) → ((k : ℕ) (d : X) → k < i → k < length xs → p (get_or xs k d) ≡ false) → ((k : ℕ) (d : X) → i < k → k < length xs → p (get_or xs k d) ≡ false) → filter p xs ≡ get_or xs i e ∷ []
  filter_one [] i e inside here below above = absurd (omega arith)
  filter_one (x ∷ xs) zero e inside here below above =
      ap (λ b. cond b (x ∷ filter p xs) (filter p xs)) (here x) ∙ ap (λ t. x ∷ t) (filter_none xs (λ k d less. above (suc k) d (omega arith) (omega arith)))
  filter_one (x ∷ xs) (suc i) e inside here below above =
      ap (λ b. cond b (x ∷ filter p xs) (filter p xs)) (below zero x (omega arith) (omega arith))
      ∙ filter_one xs i e (omega arith) here (λ k d less in'. below (suc k) d (omega arith) (omega arith)) (λ k d more in'. above (suc k) d (omega arith) (omega arith))

  -- a second time it changes nothing
  pub filter_twice : (xs : List X) → filter p (filter p xs) ≡ filter p xs
  filter_twice [] = refl
  filter_twice (x ∷ xs) = elim (p x) as (λ b. p x ≡ b → filter p (cond b (x ∷ filter p xs) (filter p xs)) ≡ cond b (x ∷ filter p xs) (filter p xs)) [
    | true ↦ λ is. ap (λ b. cond b (x ∷ filter p (filter p xs)) (filter p (filter p xs))) is ∙ ap (λ t. x ∷ t) (filter_twice xs)
    | false ↦ λ _. filter_twice xs
  ] refl

  -- what passes another test that excludes this one
  pub filter_apart : (q : X → Bool) → ((x : X) → q x ≡ true → p x ≡ false) → (xs : List X) → filter p (filter q xs) ≡ []
  filter_apart q apart [] = refl
  filter_apart q apart (x ∷ xs) = elim (q x) as (λ b. q x ≡ b → filter p (cond b (x ∷ filter q xs) (filter q xs)) ≡ []) [
    | true ↦ λ is. ap (λ b. cond b (x ∷ filter p (filter q xs)) (filter p (filter q xs))) (apart x is) ∙ filter_apart q apart xs
    | false ↦ λ _. filter_apart q apart xs
  ] refl

  pub all_filter : (P : X → Type 0) (xs : List X) → AllByRecursion P xs → AllByRecursion P (filter p xs)
  all_filter P [] all = tt
  all_filter P (x ∷ xs) all = elim (p x) as (λ b. AllByRecursion P (cond b (x ∷ filter p xs) (filter p xs))) [ true ↦ (all.0, all_filter P xs all.1) | false ↦ all_filter P xs all.1 ]

  pub all_passed : (P : X → Type 0) → ((x : X) → p x ≡ true → P x) → (xs : List X) → AllByRecursion P (filter p xs)
  all_passed P says [] = tt
  all_passed P says (x ∷ xs) = elim (p x) as (λ b. p x ≡ b → AllByRecursion P (cond b (x ∷ filter p xs) (filter p xs))) [
    | true ↦ λ is. (says x is, all_passed P says xs)
    | false ↦ λ _. all_passed P says xs
  ] refl
