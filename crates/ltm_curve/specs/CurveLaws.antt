-- What holds of every curves.
use Rattle.std.specs.Prelude.{◌≡◌, ℕ, ◌*◌, ◌<◌, ◌≤◌, ℤ, pos, ◌≤ℤ◌}
use Rattle.ltm_curve.specs.Counts.{at_time}
use Rattle.ltm_curve.specs.Table.{groups_of, destinations_of, slots_of, counts_of, total_of, SameShape, IsIn}
use Rattle.ltm_curve.specs.declared.curves.Curves.{Curves}

-- one shape and the same counts
pub record SameCounts (a b : Curves) : Type 0 where
  pub shape : SameShape a b
  pub counts : (g d k : ℕ) → IsIn b g d k → counts_of a g d k ≡ counts_of b g d k

-- curves with the same counts have the same totals at every boundary and time
abbrev pub CountsTellAll : Type 0
CountsTellAll =
    (a b : Curves) → SameCounts a b → (g : ℕ) → g < groups_of b →
    ((k : ℕ) → k ≤ slots_of b → total_of a g k ≡ total_of b g k)
    × ((step : ℕ) (time : ℤ) → 0 < step → time ≤ℤ pos (slots_of b * step) → at_time (total_of a g) step time ≡ at_time (total_of b g) step time)

-- with one destination a total is its count
abbrev pub OneDestinationIsTotal : Type 0
OneDestinationIsTotal = (c : Curves) → destinations_of c ≡ 1 → (g k : ℕ) → total_of c g k ≡ counts_of c g 0 k
