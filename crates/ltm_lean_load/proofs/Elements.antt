-- An element of a list, and what is told of each.
use Rattle.std.proofs.Common.{◌≡◌, ℕ, zero, suc, ◌<◌, List, [], ◌∷◌, map, length, slice_index_or, arith, ap}
use Rattle.std.proofs.lemmas.List.{get_or_default}

-- what holds at a place whatever stands beyond the end holds of the list that is told of each
pub at_map : (A B : Type 0) (f : A → B) (xs : List A) (i : ℕ) (e : B) (P : B → Type 0) → i < length xs → ((d : A) → P (f (slice_index_or xs i d))) → P (slice_index_or (map f xs) i e)
at_map A B f [] i e P l h = absurd (omega (arith, l))
at_map A B f (x ∷ xs) zero e P l h = h x
at_map A B f (x ∷ xs) (suc i) e P l h = at_map A B f xs i e P (omega (arith, l)) h

-- a list with something in it
pub one_of : (A : Type 0) (xs : List A) → 0 < length xs → A
one_of A [] l = absurd (omega (arith, l))
one_of A (x ∷ xs) l = x

-- what is read and told is what is told and read
pub read_map : (A B : Type 0) (f : A → B) (xs : List A) (i : ℕ) (e : B) (r : A) → i < length xs → f (slice_index_or xs i r) ≡ slice_index_or (map f xs) i e
read_map A B f xs i e r l = at_map A B f xs i e (λ (q : B). f (slice_index_or xs i r) ≡ q) l (λ d. ap f (get_or_default xs i r d l))
