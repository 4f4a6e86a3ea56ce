-- A row of totals, into which those of another row are copied.
use Rattle.std.specs.Prelude.{◌≡◌, ℕ, ◌<◌, ◌⊎◌, List, length, slice_index}
use Rattle.ltm_curve.specs.Totals.{row_sum}

-- each number of a row stays, or becomes the total of its group, the sum of its numbers in the other row
abbrev pub StaysOrIsTotal : List ℕ → ℕ → List ℕ → List ℕ → Type 0
StaysOrIsTotal numbers each old new = (g : ℕ) → g < length old → (slice_index new g ≡ row_sum numbers each g) ⊎ (slice_index new g ≡ slice_index old g)
