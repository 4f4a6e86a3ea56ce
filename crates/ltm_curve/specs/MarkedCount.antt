-- How many places are marked.
use Rattle.std.specs.Prelude.{ℕ, if◌then◌else◌}
use Rattle.ltm_units.specs.Sums.{sum_below}
use Rattle.ltm_marks.specs.Marks.{width_of, rows_of, is_marked}
use Rattle.ltm_marks.specs.declared.marks.Marks.{Marks}

-- the marked places of a row
abbrev pub marked_in_row : Marks → ℕ → ℕ
marked_in_row m row = sum_below (width_of m) (λ place. if is_marked m place row then 1 else 0)

-- the marked places of all rows
abbrev pub marked_count : Marks → ℕ
marked_count m = sum_below (rows_of m) (marked_in_row m)
