-- What holds of the first units of every group.
use Rattle.std.specs.Prelude.{◌≡◌, ℕ, ◌+◌, ◌<◌, ◌≤◌}
use Rattle.ltm_units.specs.Sums.{sum_below}
use Rattle.ltm_curve.specs.Counts.{total}
use Rattle.ltm_curve.specs.First.{first_units, RowsRise}

-- a group that starts at 0 and never falls, and a number of units that it has by a boundary
pub record IsPart (destinations : ℕ) (rows : ℕ → ℕ → ℕ) (n last : ℕ) : Type 0 where
  pub rise : RowsRise destinations rows last
  pub empty : total destinations rows 0 ≡ 0
  pub within : n ≤ total destinations rows last

-- the parts of all destinations in the first n units sum to n
abbrev pub FirstSums : Type 0
FirstSums =
    (destinations : ℕ) (rows : ℕ → ℕ → ℕ) (n last : ℕ) → IsPart destinations rows n last →
    sum_below destinations (first_units destinations rows n last) ≡ n

-- no part falls as the number of units rises
abbrev pub FirstRises : Type 0
FirstRises =
    (destinations : ℕ) (rows : ℕ → ℕ → ℕ) (less n last : ℕ) → IsPart destinations rows n last → less ≤ n →
    (d : ℕ) → d < destinations → first_units destinations rows less last d ≤ first_units destinations rows n last d

-- a part is the same at each later boundary
abbrev pub FirstStays : Type 0
FirstStays =
    (destinations : ℕ) (rows : ℕ → ℕ → ℕ) (n last : ℕ) → IsPart destinations rows n last → RowsRise destinations rows (last + 1) →
    (d : ℕ) → d < destinations → first_units destinations rows n (last + 1) d ≡ first_units destinations rows n last d

-- a part is at most the whole count
abbrev pub FirstWithin : Type 0
FirstWithin =
    (destinations : ℕ) (rows : ℕ → ℕ → ℕ) (n last : ℕ) → IsPart destinations rows n last →
    (d : ℕ) → d < destinations → first_units destinations rows n last d ≤ rows d last
