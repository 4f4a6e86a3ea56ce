-- What a repair works on, and when a pair of node and slot is settled.
use Rattle.std.specs.Prelude.{◌≡◌, ℕ, ◌<◌, List, Option, Some, None, Bool, false}
use Rattle.ltm_curve.specs.Counts.{Counts}
use Rattle.ltm_loading.specs.Setting.{Setting}
use Rattle.ltm_loading.specs.Pairs.{pair_row}

-- the working counts, and for each pair of node and slot: the inputs that are kept of it, if any; whether it is active;
-- and the inputs with which it is claimed, if it is
pub record Desk : Type 0 where
  pub counts : Counts
  pub kept : ℕ → ℕ → Option (List ℕ)
  pub active : ℕ → ℕ → Bool
  pub claimed : ℕ → ℕ → Option (List ℕ)

-- the pair has kept inputs, and these are what it reads now
abbrev pub IsSettled : Setting → Desk → ℕ → ℕ → Type 0
IsSettled s d u t = d.kept u t ≡ Some (pair_row s d.counts u t)

-- the pair is neither active nor claimed
abbrev pub IsIdle : Desk → ℕ → ℕ → Type 0
IsIdle d u t = (d.active u t ≡ false) × (d.claimed u t ≡ None)

-- no pair of an earlier slot is active or claimed: the front is this slot or a later one
abbrev pub IsIdleBefore : Setting → Desk → ℕ → Type 0
IsIdleBefore s d slot = (u t : ℕ) → u < s.nodes → t < slot → IsIdle d u t

-- no pair is active or claimed
abbrev pub IsAtRest : Setting → Desk → Type 0
IsAtRest s d = IsIdleBefore s d s.slots

-- pairs that are not one and the same
abbrev pub IsOther : ℕ → ℕ → ℕ → ℕ → Type 0
IsOther u t w v = u ≡ w → t ≡ v → ⊥
