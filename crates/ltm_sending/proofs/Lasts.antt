-- The last boundary with at most so many units, where the totals do not fall.
use Rattle.std.proofs.Common.{◌≡◌, ℕ, zero, suc, ◌+◌, ◌-◌, ◌<◌, ◌≤◌, min, inl, inr, arith, refl, ap, sym, ◌∙◌}
use Rattle.std.proofs.lemmas.Bool.{cases_lt}
use Rattle.ltm_curve.specs.Counts.{Rises}
use Rattle.ltm_curve.specs.First.{last_within}
use Rattle.ltm_curve.proofs.Interpolation.{rises_le}
use Rattle.ltm_curve.proofs.Lasts.{IsLast, is_last, last_passed, last_taken}

-- boundaries that have passed the number need not be looked at
none_after : (f : ℕ → ℕ) (n by more : ℕ) → ((j : ℕ) → by < j → j ≤ by + more → n < f j) → last_within f n (by + more) ≡ last_within f n by
none_after f n by zero passed = ap (last_within f n) (omega arith)
none_after f n by (suc more) passed =
    let at : by + suc more ≡ suc (by + more) = omega arith in
    ap (last_within f n) at
    ∙ (last_passed f n (by + more) (passed (suc (by + more)) (omega arith) (omega arith))
    ∙ none_after f n by more (λ j low high. passed j low (omega arith)))

-- so the search begins at a boundary where the next one has passed the number
pub passed_by : (f : ℕ → ℕ) (n by slot : ℕ) → Rises f slot → by < slot → n < f (by + 1) → last_within f n slot ≡ last_within f n by
passed_by f n by slot rise low next =
    let at : by + (slot - by) ≡ slot = omega arith in
    ap (last_within f n) (omega arith)
    ∙ none_after f n by (slot - by) (λ j above below. omega (arith, rises_le f slot rise (by + 1) j (omega arith) (omega arith)))

-- what ends by a boundary ends at an earlier one, or there
pub last_by : (f : ℕ → ℕ) (n by slot : ℕ) → Rises f slot → f 0 ≤ n → by ≤ slot → min (last_within f n slot) by ≡ last_within f n by
last_by f n by slot rise start low =
    let a : IsLast f n slot (last_within f n slot) = is_last f n slot start in
    let b : IsLast f n by (last_within f n by) = is_last f n by start in
    elim (cases_lt (last_within f n slot) (last_within f n by)) [
      | inl past ↦ absurd (omega (arith, a.above (last_within f n by) past (omega (arith, b.below, low)), b.within))
      | inr under ↦ elim (cases_lt (last_within f n by) by) [
        | inr at ↦ omega (arith, under, at, b.below)
        | inl before ↦ elim (cases_lt (last_within f n by) (last_within f n slot)) [
          | inr same ↦ omega (arith, under, same, b.below)
          | inl more ↦
              let next : n < f (last_within f n by + 1) = b.above (last_within f n by + 1) (omega arith) (omega (arith, before)) in
              absurd (omega (arith, next, a.within, rises_le f slot rise (last_within f n by + 1) (last_within f n slot) (omega (arith, more)) a.below))
        ]
      ]
    ]

-- one boundary further down
pub step_down : (f : ℕ → ℕ) (n b last : ℕ) → 0 < b → n < f b → last_within f n b ≡ last_within f n last → last_within f n (b - 1) ≡ last_within f n last
step_down f n zero last some h e = absurd (omega arith)
step_down f n (suc b) last some h e = let at : suc b - 1 ≡ b = omega arith in ap (last_within f n) at ∙ (sym (last_passed f n b h) ∙ e)

-- and a boundary at which the search ends
pub ends_here : (f : ℕ → ℕ) (n b : ℕ) → f b ≤ n → last_within f n b ≡ b
ends_here f n zero h = refl
ends_here f n (suc b) h = last_taken f n b h

-- the lesser of two numbers, named the other way round
pub other_min : (a b : ℕ) → min a b ≡ min b a
other_min a b = omega arith
