-- The totals of the rows of a table.
use Rattle.std.specs.Prelude.{◌≡◌, ℕ, ◌+◌, ◌-◌, ◌*◌, ◌^◌, ◌<◌, min, List, slice_index}
use Rattle.ltm_units.specs.Bounds.{most_destinations}
use Rattle.ltm_units.specs.Sums.{sum_below}

-- the sum of a row of a table that has so many numbers in each row
abbrev pub row_sum : List ℕ → ℕ → ℕ → ℕ
row_sum table width row = sum_below width (λ d. slice_index table (row * width + d))

-- a total as it is kept: at most the greatest number of 32 bits
abbrev pub capped : ℕ → ℕ
capped total = min total (2 ^ 32 - 1)

-- the most that a total of small counts can be
abbrev pub most_total : ℕ
most_total = most_destinations * 2 ^ 31

-- one number for each row, its sum as it is kept
abbrev pub AreCappedTotals : List ℕ → List ℕ → ℕ → ℕ → Type 0
AreCappedTotals totals table width rows = (row : ℕ) → row < rows → slice_index totals row ≡ capped (row_sum table width row)
