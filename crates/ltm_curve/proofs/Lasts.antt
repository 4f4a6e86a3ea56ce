-- The last boundary with at most so many units, and rows that do not fall.
use Rattle.std.proofs.Common.{◌≡◌, ℕ, zero, suc, ◌+◌, ◌<◌, ◌≤◌, arith, inl, inr, ap, sym, subst}
use Rattle.std.proofs.lemmas.Bool.{cases_lt, cases_eq}
use Rattle.std.proofs.lemmas.Bool.Decides.{nat_tests}
use Rattle.ltm_units.proofs.Sums.{sum_below-le, sum_below-lt}
use Rattle.ltm_curve.specs.Counts.{total, Rises}
use Rattle.ltm_curve.specs.First.{last_within, RowsRise}
use Rattle.ltm_curve.proofs.Interpolation.{rises_le}

pub last_taken : (c : ℕ → ℕ) (n last : ℕ) → c (suc last) ≤ n → last_within c n (suc last) ≡ suc last
last_taken c n last h = grind (arith, nat_tests)

pub last_passed : (c : ℕ → ℕ) (n last : ℕ) → n < c (suc last) → last_within c n (suc last) ≡ last_within c n last
last_passed c n last h = grind (arith, nat_tests)

pub record IsLast (c : ℕ → ℕ) (n last k : ℕ) : Type 0 where
  pub below : k ≤ last
  pub within : c k ≤ n
  pub above : (j : ℕ) → k < j → j ≤ last → n < c j

pub is_last : (c : ℕ → ℕ) (n last : ℕ) → c 0 ≤ n → IsLast c n last (last_within c n last)
is_last c n zero h = record { below = omega arith; within = h; above = λ j l m. absurd (omega arith) }
is_last c n (suc last) h =
    elim (cases_lt n (c (suc last))) [
      | inl passed ↦
          let e : last_within c n (suc last) ≡ last_within c n last = last_passed c n last passed in
          let r : IsLast c n last (last_within c n last) = is_last c n last h in
          subst (λ (k : ℕ). IsLast c n (suc last) k) (sym e)
          (record {
            below = omega (arith, r.below);
            within = r.within;
            above = λ j l m. elim (cases_eq j (suc last)) [
              | inl at ↦ let f : c j ≡ c (suc last) = ap c at in omega arith
              | inr other ↦ r.above j l (omega arith)
            ];
          })
      | inr taken ↦
          subst (λ (k : ℕ). IsLast c n (suc last) k) (sym (last_taken c n last taken))
          (record { below = omega arith; within = taken; above = λ j l m. absurd (omega arith) })
    ]

pub one_last : (c : ℕ → ℕ) (n last j k : ℕ) → IsLast c n last j → IsLast c n last k → j ≡ k
one_last c n last j k a b =
    elim (cases_lt j k) [
      | inl low ↦ absurd (omega (arith, a.above k low b.below, b.within))
      | inr high ↦ elim (cases_lt k j) [ inl low ↦ absurd (omega (arith, b.above j low a.below, a.within)) | inr same ↦ omega arith ]
    ]

pub total_rises : (n : ℕ) (rows : ℕ → ℕ → ℕ) (last : ℕ) → RowsRise n rows last → Rises (total n rows) last
total_rises n rows last h k l = sum_below-le n (λ d. rows d k) (λ d. rows d (k + 1)) (λ d m. h d k m l)

pub row_le : (n : ℕ) (rows : ℕ → ℕ → ℕ) (last : ℕ) → RowsRise n rows last → (d j k : ℕ) → d < n → j ≤ k → k ≤ last → rows d j ≤ rows d k
row_le n rows last h d j k m l u = rises_le (rows d) last (λ i x. h d i m x) j k l u

-- rows with one total are one
pub same_rows : (n : ℕ) (rows : ℕ → ℕ → ℕ) (j k : ℕ) → ((d : ℕ) → d < n → rows d j ≤ rows d k) → total n rows k ≤ total n rows j → (d : ℕ) → d < n → rows d j ≡ rows d k
same_rows n rows j k h e d l =
    elim (cases_lt (rows d j) (rows d k)) [
      | inl less ↦ absurd (omega (arith, sum_below-lt n (λ i. rows i j) (λ i. rows i k) d l h less))
      | inr not_less ↦ omega (arith, h d l)
    ]

-- what is above n at one boundary is so at each later one
pub above_from : (m : ℕ) (rows : ℕ → ℕ → ℕ) (last n k : ℕ) → RowsRise m rows last → n < total m rows k → (j : ℕ) → k ≤ j → j ≤ last → n < total m rows j
above_from m rows last n k rise over j l x = omega (arith, rises_le (total m rows) last (total_rises m rows last rise) k j l x)
