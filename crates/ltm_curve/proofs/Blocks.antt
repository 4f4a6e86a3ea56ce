-- A block of numbers is carried on to the next.
use Rattle.std.proofs.Common.{◌≡◌, ℕ, ◌+◌, ◌-◌, ◌*◌, ◌<◌, ◌≤◌, List, slice_index, arith, inl, inr, ap, sym, ◌∙◌}
use Rattle.std.proofs.Math.Nat.{mul-le-mul_right}
use Rattle.std.proofs.lemmas.Bool.{cases_lt}
use Rattle.ltm_units.proofs.Sums.{sum_below-same}
use Rattle.ltm_curve.specs.Blocks.{IsCarried}
use Rattle.ltm_curve.specs.Totals.{capped, AreCappedTotals}

-- numbers that are small stay small
pub small_carried : (old new : List ℕ) (width block most : ℕ) → IsCarried old new width block → ((i : ℕ) → slice_index old i < most) → (i : ℕ) → slice_index new i < most
small_carried old new width block most h all i =
    elim (cases_lt i (block * width + width)) [
      | inl low ↦ omega (arith, h.below i 0 low, all i)
      | inr from ↦ elim (cases_lt i (block * width + width + width)) [
        | inl here ↦ omega (arith, h.next i 0 from here, all (block * width + (i - (block * width + width))))
        | inr after ↦ omega (arith, h.from i 0 after, all i)
      ]
    ]

-- a row of a block, whose places lie in that block
row_below : (row a groups width d : ℕ) → row < a * groups → d < width → row * width + d < a * (groups * width)
row_below row a groups width d l m = let up : row + 1 ≤ a * groups = omega arith in omega (arith, mul-le-mul_right width up)

row_from : (row a groups width d : ℕ) → a * groups ≤ row → a * (groups * width) ≤ row * width + d
row_from row a groups width d l = omega (arith, mul-le-mul_right width l)

-- the row of the block before
row_before : (row before groups width d : ℕ) → row ≡ before + groups → row * width + d ≡ before * width + d + groups * width
row_before row before groups width d e = omega (arith, ap (λ (z : ℕ). z * width) e)

-- where totals are carried on like the table, they are its totals
pub totals_carried : (totals table more new : List ℕ) (groups width block rows : ℕ) → AreCappedTotals totals table width rows → IsCarried totals more groups block → IsCarried table new (groups * width) block → AreCappedTotals more new width rows
totals_carried totals table more new groups width block rows all few many = λ row l.
    elim (cases_lt row (block * groups + groups)) [
      | inl low ↦
          few.below row 0 low
          ∙ (all row l
          ∙ ap capped (sym (sum_below-same width (λ d. slice_index new (row * width + d)) (λ d. slice_index table (row * width + d))
          (λ d m. many.below (row * width + d) 0 (omega (arith, row_below row (block + 1) groups width d (omega arith) m))))))
      | inr from ↦ elim (cases_lt row (block * groups + groups + groups)) [
        | inl here ↦
            let before : ℕ = block * groups + (row - (block * groups + groups)) in
            let is : row ≡ block * groups + (row - (block * groups + groups)) + groups = omega arith in
            few.next row 0 from here
            ∙ (all (block * groups + (row - (block * groups + groups))) (omega arith)
            ∙ ap capped (sym (sum_below-same width (λ d. slice_index new (row * width + d)) (λ d. slice_index table ((block * groups + (row - (block * groups + groups))) * width + d))
            (λ d m.
            let low : block * (groups * width) + groups * width ≤ row * width + d = omega (arith, row_from row (block + 1) groups width d (omega arith)) in
            let high : row * width + d < block * (groups * width) + groups * width + groups * width = omega (arith, row_below row (block + 2) groups width d (omega arith) m) in
            many.next (row * width + d) 0 low high
            ∙ ap (slice_index table) (omega (arith, low, row_before row (block * groups + (row - (block * groups + groups))) groups width d is))))))
        | inr after ↦
            few.from row 0 after
            ∙ (all row l
            ∙ ap capped (sym (sum_below-same width (λ d. slice_index new (row * width + d)) (λ d. slice_index table (row * width + d))
            (λ d m. many.from (row * width + d) 0 (omega (arith, row_from row (block + 2) groups width d (omega arith)))))))
      ]
    ]
