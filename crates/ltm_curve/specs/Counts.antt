-- What counts over time say. Boundary k is the moment k steps after the start.
use Rattle.std.specs.Prelude.{ℕ, ◌+◌, ◌-◌, ◌*◌, ◌/◌, ◌%◌, ◌<◌, ◌≤◌, ℤ, pos, negsuc}
use Rattle.ltm_units.specs.Sums.{sum_below}

-- a count for each group, destination and boundary
abbrev pub Counts : Type 0
Counts = ℕ → ℕ → ℕ → ℕ

-- the total of a group of rows at a boundary; rows d k is the count of destination d at boundary k
abbrev pub total : ℕ → (ℕ → ℕ → ℕ) → ℕ → ℕ
total destinations rows k = sum_below destinations (λ d. rows d k)

-- the count at a time: that of the boundary before it, and the floored part of what comes by the boundary after it
abbrev pub interpolated : (ℕ → ℕ) → ℕ → ℕ → ℕ
interpolated counts step time =
    counts (time / step) + (counts (time / step + 1) - counts (time / step)) * (time % step) / step

-- the same at a time that may lie before the start, where nothing is counted
abbrev pub at_time : (ℕ → ℕ) → ℕ → ℤ → ℕ
at_time counts step (pos time) = interpolated counts step time
at_time counts step (negsuc time) = 0

-- the count does not fall between the two boundaries round a time; at a boundary there are no two
abbrev pub RisesAt : (ℕ → ℕ) → ℕ → ℤ → Type 0
RisesAt counts step (pos time) = 0 < time % step → counts (time / step) ≤ counts (time / step + 1)
RisesAt counts step (negsuc time) = Unit {0}

-- no count falls up to a boundary
abbrev pub Rises : (ℕ → ℕ) → ℕ → Type 0
Rises counts last = (k : ℕ) → k < last → counts k ≤ counts (k + 1)
