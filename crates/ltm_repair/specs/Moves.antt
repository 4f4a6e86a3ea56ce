-- What the events of a repair do to a desk.
use Rattle.std.specs.Prelude.{◌≡◌, ◌≢◌, ℕ, ◌+◌, ◌<◌, ◌≤◌, ◌⊎◌, List, Some, None, Bool, true, false, ◌||◌, is_some}
use Rattle.ltm_loading.specs.Setting.{Setting}
use Rattle.ltm_loading.specs.Groups.{groups}
use Rattle.ltm_curve.specs.Counts.{Counts}
use Rattle.ltm_loading.specs.Pairs.{pair_row, count_row}
use Rattle.ltm_loading.specs.NextPair.{IsOf}
use Rattle.ltm_repair.specs.Desk.{Desk, IsSettled, IsOther}
use Rattle.ltm_repair.specs.Facts.{IsClaim, IsStepOf}

-- of no other pair does it change whether it is active or with what it is claimed
pub record OthersStand (old : Desk) (u t : ℕ) (new : Desk) : Type 0 where
  pub active : (w v : ℕ) → IsOther u t w v → new.active w v ≡ old.active w v
  pub claimed : (w v : ℕ) → IsOther u t w v → new.claimed w v ≡ old.claimed w v

-- no count and no kept inputs change
pub record SameWork (old new : Desk) : Type 0 where
  pub counts : new.counts ≡ old.counts
  pub kept : new.kept ≡ old.kept

-- settled pairs are taken out of the active ones
pub record DropsSettled (s : Setting) (old new : Desk) : Type 0 where
  pub each : (u t : ℕ) → (new.active u t ≡ old.active u t) ⊎ ((new.active u t ≡ false) × IsSettled s old u t)
  pub claimed : new.claimed ≡ old.claimed
  pub work : SameWork old new

-- an active pair of the front slot, whose inputs are no longer the kept ones, is claimed with what it reads now
pub record TakesClaim (s : Setting) (old : Desk) (u t : ℕ) (row : List ℕ) (new : Desk) : Type 0 where
  pub was_active : old.active u t ≡ true
  pub claim : IsClaim s old u t row
  pub inactive : new.active u t ≡ false
  pub holds : new.claimed u t ≡ Some row
  pub others : OthersStand old u t new
  pub work : SameWork old new

-- a claimed pair is active again
pub record GivesBack (old : Desk) (u t : ℕ) (new : Desk) : Type 0 where
  pub was_claimed : old.claimed u t ≢ None
  pub again : new.active u t ≡ true
  pub free : new.claimed u t ≡ None
  pub others : OthersStand old u t new
  pub work : SameWork old new

-- no inputs are kept any more of a pair, where those that were kept are none that it reads while the counts of its node at the
-- slot's beginning are what they are now
pub record Forgets (s : Setting) (old : Desk) (u t : ℕ) (new : Desk) : Type 0 where
  pub gone : new.kept u t ≡ None
  pub outdated : (c : Counts) → count_row s c u t ≡ count_row s new.counts u t → old.kept u t ≢ Some (pair_row s c u t)

-- a row is kept of a pair; those of its node's next slot may be forgotten, and no other kept row changes
pub record KeepsRow (s : Setting) (old : Desk) (u t : ℕ) (row : List ℕ) (new : Desk) : Type 0 where
  pub this : new.kept u t ≡ Some row
  pub next : (new.kept u (t + 1) ≡ old.kept u (t + 1)) ⊎ Forgets s old u (t + 1) new
  pub others : (w v : ℕ) → IsOther u t w v → IsOther u (t + 1) w v → new.kept w v ≡ old.kept w v

-- the counts that a pair sets become the step of a row, and the row is kept; no other count changes
pub record Sets (s : Setting) (old : Desk) (u t : ℕ) (row : List ℕ) (new : Desk) : Type 0 where
  pub step : IsStepOf s new.counts u t row
  pub later : (g e k : ℕ) → g < groups s → e < s.destinations → k ≤ s.slots → k ≢ t + 1 → new.counts g e k ≡ old.counts g e k
  pub others : (g e : ℕ) → g < groups s → e < s.destinations → (IsOf s u g e → ⊥) → new.counts g e (t + 1) ≡ old.counts g e (t + 1)
  pub keeps : KeepsRow s old u t row new

-- the pairs that wake are of later slots, and among them is each pair that reads a changed count
pub record WakesReaders (s : Setting) (old new : Desk) (t : ℕ) (wakes : ℕ → ℕ → Bool) : Type 0 where
  pub later : (w v : ℕ) → wakes w v ≡ true → t < v
  pub quiet : (w v : ℕ) → w < s.nodes → v < s.slots → wakes w v ≡ false → pair_row s new.counts w v ≡ pair_row s old.counts w v

-- a claimed pair is done: its counts are set, the claim is gone, and besides what was active exactly those that wake are
pub record Commits (s : Setting) (old : Desk) (u t : ℕ) (row : List ℕ) (wakes : ℕ → ℕ → Bool) (new : Desk) : Type 0 where
  pub was_claimed : old.claimed u t ≡ Some row
  pub sets : Sets s old u t row new
  pub readers : WakesReaders s old new t wakes
  pub free : new.claimed u t ≡ None
  pub claimed : (w v : ℕ) → IsOther u t w v → new.claimed w v ≡ old.claimed w v
  pub active : (w v : ℕ) → new.active w v ≡ (old.active w v || wakes w v)

-- the horizon may grow: old counts and kept inputs stay, new counts are 0, and new pairs have no kept inputs
pub record Grows (r s : Setting) (old new : Desk) : Type 0 where
  pub slots : r.slots ≤ s.slots
  pub old_counts : (g e k : ℕ) → g < groups s → e < s.destinations → k ≤ r.slots → new.counts g e k ≡ old.counts g e k
  pub new_counts : (g e k : ℕ) → g < groups s → e < s.destinations → r.slots < k → k ≤ s.slots → new.counts g e k ≡ 0
  pub old_kept : (u t : ℕ) → t < r.slots → new.kept u t ≡ old.kept u t
  pub new_kept : (u t : ℕ) → r.slots ≤ t → t < s.slots → new.kept u t ≡ None

-- each old pair that reads other numbers of the new setting than of the old one is touched
abbrev pub TouchesReaders : Setting → Setting → Desk → (ℕ → ℕ → Bool) → Type 0
TouchesReaders r s old touched =
    (u t : ℕ) → u < s.nodes → t < r.slots → touched u t ≡ false → pair_row s old.counts u t ≡ pair_row r old.counts u t

-- a batch is accepted: claims are void; an old pair is active exactly where it was active or claimed or is touched, and
-- every new pair is active
pub record Accepts (r s : Setting) (old : Desk) (touched : ℕ → ℕ → Bool) (new : Desk) : Type 0 where
  pub grows : Grows r s old new
  pub readers : TouchesReaders r s old touched
  pub void : (u t : ℕ) → new.claimed u t ≡ None
  pub old_active : (u t : ℕ) → t < r.slots → new.active u t ≡ (old.active u t || is_some (old.claimed u t) || touched u t)
  pub new_active : (u t : ℕ) → u < s.nodes → r.slots ≤ t → t < s.slots → new.active u t ≡ true
