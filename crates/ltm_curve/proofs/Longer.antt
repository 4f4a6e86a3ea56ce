-- A table with zeros behind it.
use Rattle.std.proofs.Common.{◌≡◌, ℕ, ◌+◌, ◌-◌, ◌*◌, ◌<◌, ◌≤◌, ◌++◌, List, [], ◌∷◌, length, length-append, replicate, slice_index, arith, inl, inr, refl, ap, sym, ◌∙◌, append_assoc}
use Rattle.std.proofs.Math.Nat.{mul-le-mul_right}
use Rattle.std.proofs.lemmas.Bool.{cases_lt}
use Rattle.std.proofs.lemmas.List.{get_or_append_left, get_or-append_right, length-replicate, replicate-append-replicate}
use Rattle.ltm_units.proofs.Sums.{sum_below-same, sum_below-zero}
use Rattle.ltm_curve.specs.Totals.{capped, AreCappedTotals}
use Rattle.ltm_curve.proofs.Lists.{zero_index}

-- one number more
pub one_longer : {A : Type 0} (xs : List A) (n : ℕ) (x : A) → xs ++ replicate n x ++ (x ∷ []) ≡ xs ++ replicate (n + 1) x
one_longer {A} xs n x = append_assoc xs (replicate n x) (x ∷ []) ∙ ap (λ (ys : List A). xs ++ ys) (replicate-append-replicate n 1 x)

pub length_longer : (xs ys : List ℕ) (size : ℕ) → ys ≡ xs ++ replicate (size - length xs) 0 → length xs ≤ size → length ys ≡ size
length_longer xs ys size e l =
    let long : length ys ≡ length (xs ++ replicate (size - length xs) 0) = ap length e in omega (arith, long, length-append xs (replicate (size - length xs) 0), length-replicate {A = ℕ} (size - length xs) 0)

pub at_old : (xs : List ℕ) (n i : ℕ) → i < length xs → slice_index (xs ++ replicate n 0) i ≡ slice_index xs i
at_old xs n i l = get_or_append_left xs (replicate n 0) 0 i l

pub at_new : (xs : List ℕ) (n i : ℕ) → length xs ≤ i → slice_index (xs ++ replicate n 0) i ≡ 0
at_new xs n i l = get_or-append_right xs (replicate n 0) (length xs) i 0 refl l ∙ zero_index n (i - length xs)

pub small_longer : (xs : List ℕ) (n most : ℕ) → 0 < most → ((i : ℕ) → slice_index xs i < most) → (i : ℕ) → slice_index (xs ++ replicate n 0) i < most
small_longer xs n most some all i = elim (cases_lt i (length xs)) [ inl low ↦ omega (arith, at_old xs n i low, all i) | inr past ↦ omega (arith, at_new xs n i past) ]

-- totals of a table stay so where zeros come behind both
pub totals_longer : (totals table : List ℕ) (width rows n m more : ℕ) → AreCappedTotals totals table width rows → length totals ≡ rows → length table ≡ rows * width → AreCappedTotals (totals ++ replicate n 0) (table ++ replicate m 0) width more
totals_longer totals table width rows n m more all few many = λ row l.
    elim (cases_lt row rows) [
      | inl low ↦
          let up : (row + 1) * width ≤ rows * width = mul-le-mul_right width (let x : row + 1 ≤ rows = omega arith in x) in
          at_old totals n row (omega arith)
          ∙ (all row low
          ∙ ap capped (sym (sum_below-same width (λ d. slice_index (table ++ replicate m 0) (row * width + d)) (λ d. slice_index table (row * width + d)) (λ d x. at_old table m (row * width + d) (omega arith)))))
      | inr past ↦
          let up : rows * width ≤ row * width = mul-le-mul_right width past in
          at_new totals n row (omega arith)
          ∙ ap capped (sym (sum_below-zero width (λ d. slice_index (table ++ replicate m 0) (row * width + d)) (λ d x. at_new table m (row * width + d) (omega arith))))
    ]
