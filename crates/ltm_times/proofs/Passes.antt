-- A list that is written place by place.
use Rattle.std.proofs.Common.{◌≡◌, ℕ, ◌+◌, ◌<◌, ◌≤◌, List, length, slice_index_or, slice_set, inl, inr, subst, sym, arith}
use Rattle.std.proofs.lemmas.Bool.{cases_lt}
use Rattle.std.proofs.lemmas.List.{get_or-set_same, get_or-set_other}

-- what holds at each place before one, once that is written
pub done_more : {X : Type 0} (Q : ℕ → X → Type 0) (xs : List X) (n : ℕ) (y : X) → n < length xs → ((i : ℕ) (d : X) → i < n → Q i (slice_index_or xs i d)) → Q n y →
    (i : ℕ) (d : X) → i < n + 1 → Q i (slice_index_or (slice_set xs n y) i d)
done_more Q xs n y there before here i d l =
    elim (cases_lt i n) [
      | inl old ↦ subst (λ x. Q i x) (sym (get_or-set_other xs n i y d (λ e. omega (arith, e, old)))) (before i d old)
      | inr new ↦
          let e : n ≡ i = omega arith in
          subst (λ j. Q j (slice_index_or (slice_set xs n y) j d)) e (subst (λ x. Q n x) (sym (get_or-set_same xs n y d there)) here)
    ]

-- what holds from a place on, behind it once it is written
pub left_more : {X : Type 0} (P : ℕ → X → Type 0) (xs : List X) (n last : ℕ) (y : X) → ((i : ℕ) (d : X) → n ≤ i → i < last → P i (slice_index_or xs i d)) →
    (i : ℕ) (d : X) → n + 1 ≤ i → i < last → P i (slice_index_or (slice_set xs n y) i d)
left_more P xs n last y before i d l m =
    subst (λ x. P i x) (sym (get_or-set_other xs n i y d (λ e. omega (arith, e, l)))) (before i d (omega arith) m)
