-- The state of a repair: its desk and its books.
use Rattle.std.specs.Prelude.{ℕ, ◌+◌, ◌-◌, ◌≤◌, Bool}
use Rattle.ltm_units.specs.Sums.{sum_below}
use Rattle.ltm_curve.specs.Counts.{Counts}
use Rattle.ltm_loading.specs.Setting.{Setting}
use Rattle.ltm_loading.specs.Loading.{IsLoading}
use Rattle.ltm_loading.specs.Differing.{differing}
use Rattle.ltm_repair.specs.Desk.{Desk}

-- the desk; the setting after each number of batches; how many batches are accepted, how many of them stand before the
-- last settle count, and how many are shown; what is shown, a total for each group and boundary; the commits since that
-- settle count; and the groups and boundaries in which a commit has changed a count since the last publishing
pub record RepairState : Type 0 where
  pub desk : Desk
  pub settings : ℕ → Setting
  pub accepted : ℕ
  pub settled : ℕ
  pub shown_at : ℕ
  pub shown : ℕ → ℕ → ℕ
  pub commits : ℕ
  pub changed : ℕ → ℕ → Bool

-- the setting as all accepted batches leave it
abbrev pub now : RepairState → Setting
now s = s.settings s.accepted

-- loadings of the settings after each number of batches, from those of the last settle count on
abbrev pub AreLoadings : RepairState → (ℕ → Counts) → Type 0
AreLoadings s loadings = (k : ℕ) → s.settled ≤ k → k ≤ s.accepted → IsLoading (s.settings k) (loadings k)

-- by how many pairs the loading after one batch more differs from that after k batches
abbrev pub batch_difference : RepairState → (ℕ → Counts) → ℕ → ℕ
batch_difference s loadings k = differing (s.settings k) (s.settings (k + 1)) (loadings k) (loadings (k + 1))

-- that for every batch since the last settle count, summed up
unfoldable pub all_differences : RepairState → (ℕ → Counts) → ℕ
all_differences s loadings = sum_below (s.accepted - s.settled) (λ k. batch_difference s loadings (s.settled + k))

-- a number that a settle count may tell: at least by how many pairs the loading differs from that of the last settle
-- count, and at most the sum of differences from batch to batch
pub record IsSettleCount (s : RepairState) (loadings : ℕ → Counts) (n : ℕ) : Type 0 where
  pub at_least : differing (s.settings s.settled) (now s) (loadings s.settled) (loadings s.accepted) ≤ n
  pub at_most : n ≤ all_differences s loadings
