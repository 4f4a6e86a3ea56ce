-- A pair whose arms send nothing.
use Rattle.std.specs.Prelude.{◌≡◌, ℕ, ◌<◌}
use Rattle.ltm_curve.specs.Counts.{Counts}
use Rattle.ltm_loading.specs.Setting.{Setting}
use Rattle.ltm_loading.specs.Pairs.{arms_of, sending}

-- no arm of the node sends anything in the slot
abbrev pub IsIdle : Setting → Counts → ℕ → ℕ → Type 0
IsIdle s c u t = (arm destination : ℕ) → arm < arms_of s u → destination < s.destinations → sending s c u t arm destination ≡ 0
