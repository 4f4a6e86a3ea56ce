-- The work in parts: each origin is in one of them, and what all parts come to together is what all origins come to.
use Rattle.std.specs.Prelude.{ℕ, ◌≡◌, ◌<◌, ◌≤◌, ◌+◌, ◌*◌, ◌^◌, ◌==◌, if◌then◌else◌, All, List, length, slice_index}
use Rattle.ltm_units.specs.Sums.{sum_below}
use Rattle.ltm_curve.specs.Counts.{Counts}
use Rattle.ltm_loading.specs.Setting.{Setting}
use Rattle.ltm_flows.specs.declared.loading.Loading.{Loading}
use Rattle.ltm_flows.specs.Shown.{ShowsCounts}
use Rattle.ltm_gap.specs.declared.sums.Sum.{Sum}
use Rattle.ltm_gap.specs.Gaps.{twice_in, late_in}
use Rattle.ltm_gap.specs.Steps.{sum_at, AreSums, Adds}

-- no more parts than threads that are started
abbrev pub most_parts : ℕ
most_parts = 16

-- a table says of each origin to which of so many parts it belongs
pub record AreDealt (parts origins : ℕ) (owners : List ℕ) : Type 0 where
  pub one_for_each : length owners ≡ origins
  pub within : All (λ part. part < parts) owners

-- an amount of an origin where it belongs to a part, and else nothing
abbrev pub of_part : List ℕ → ℕ → (ℕ → ℕ) → ℕ → ℕ
of_part owners part amount origin = if slice_index owners origin == part then amount origin else 0

-- what an origin comes to over all slots
abbrev pub twice_from : Setting → Counts → ℕ → ℕ → ℕ
twice_from s c destination origin = sum_below s.slots (twice_in s c destination origin)

abbrev pub late_from : Setting → Counts → ℕ → ℕ → ℕ
late_from s c destination origin = sum_below s.slots (late_in s c destination origin)

-- those who are produced at an origin were added where it belongs to a part, and those at the first origins that do
abbrev pub AddsOwned : Setting → Loading → List ℕ → ℕ → ℕ → List Sum → List Sum → Type 0
AddsOwned s l owners part origin =
    Adds s l (λ c d. of_part owners part (twice_from s c d) origin) (λ c d. of_part owners part (late_from s c d) origin)

abbrev pub AddsPart : Setting → Loading → List ℕ → ℕ → ℕ → List Sum → List Sum → Type 0
AddsPart s l owners part origins =
    Adds s l (λ c d. sum_below origins (of_part owners part (twice_from s c d))) (λ c d. sum_below origins (of_part owners part (late_from s c d)))

-- the sums of the origins of a part
pub record IsPart (s : Setting) (l : Loading) (owners : List ℕ) (part : ℕ) (sums : List Sum) : Type 0 where
  pub one_for_each : length sums ≡ s.destinations
  pub twice : (version : ℕ) (c : Counts) → ShowsCounts s version c l → (d : ℕ) → d < s.destinations → (sum_at sums d).twice ≡ sum_below s.nodes (of_part owners part (twice_from s c d))
  pub late : (version : ℕ) (c : Counts) → ShowsCounts s version c l → (d : ℕ) → d < s.destinations → (sum_at sums d).late ≡ sum_below s.nodes (of_part owners part (late_from s c d))
  pub small : AreSums (2 ^ 30) sums

-- the sums of the first parts together
pub record AreJoined (s : Setting) (l : Loading) (owners : List ℕ) (parts : ℕ) (sums : List Sum) : Type 0 where
  pub one_for_each : length sums ≡ s.destinations
  pub twice : (version : ℕ) (c : Counts) → ShowsCounts s version c l → (d : ℕ) → d < s.destinations → (sum_at sums d).twice ≡ sum_below parts (λ p. sum_below s.nodes (of_part owners p (twice_from s c d)))
  pub late : (version : ℕ) (c : Counts) → ShowsCounts s version c l → (d : ℕ) → d < s.destinations → (sum_at sums d).late ≡ sum_below parts (λ p. sum_below s.nodes (of_part owners p (late_from s c d)))
  pub small : AreSums (parts * 2 ^ 30) sums

-- ---- two sums of each destination
-- a sum is two others together
pub record IsBoth (a b sum : Sum) : Type 0 where
  pub twice : sum.twice ≡ a.twice + b.twice
  pub late : sum.late ≡ a.late + b.late

-- to the destinations below one the other's sum was added, and the rest are as before
pub record BothBelow (below : ℕ) (old more new : List Sum) : Type 0 where
  pub count : length new ≡ length old
  pub added : (d : ℕ) → d < below → IsBoth (sum_at old d) (sum_at more d) (sum_at new d)
  pub others : (d : ℕ) → below ≤ d → sum_at new d ≡ sum_at old d
