-- What holds of a repair at any time, and what one begins with.
use Rattle.std.specs.Prelude.{◌≡◌, ◌≢◌, ℕ, ◌+◌, ◌-◌, ◌*◌, ◌<◌, ◌≤◌, Some, None, false}
use Rattle.ltm_curve.specs.Counts.{Counts, total}
use Rattle.ltm_loading.specs.Setting.{IsSetting}
use Rattle.ltm_loading.specs.Groups.{groups}
use Rattle.ltm_loading.specs.Pairs.{pair_row}
use Rattle.ltm_loading.specs.Loading.{IsLoading}
use Rattle.ltm_loading.specs.LoadingTotals.{HaveTotals, AreLoadingTotals}
use Rattle.ltm_loading.specs.Networks.{SameNetwork}
use Rattle.ltm_repair.specs.Desk.{IsIdle, IsAtRest}
use Rattle.ltm_repair.specs.Facts.{IsSound}
use Rattle.ltm_repair.specs.Counting.{left_to_do, strayed, undone}
use Rattle.ltm_repair.specs.State.{RepairState, now, AreLoadings, all_differences}

-- the settings after each number of batches are of one network, and no horizon is longer than the present one
pub record AreOfOneNetwork (s : RepairState) : Type 0 where
  pub valid : (k : ℕ) → k ≤ s.accepted → IsSetting (s.settings k)
  pub network : (k : ℕ) → k ≤ s.accepted → SameNetwork (s.settings k) (now s)
  pub horizon : (k : ℕ) → k ≤ s.accepted → (s.settings k).slots ≤ (now s).slots

-- what is shown are the totals of the loading of so many batches as are shown, with their horizon; outside the changed
-- cells they are those of the working counts at every boundary that both have, and at every later boundary these are 0
pub record ShowsALoading (s : RepairState) : Type 0 where
  pub settled_first : s.settled ≤ s.shown_at
  pub accepted_last : s.shown_at ≤ s.accepted
  pub loading : AreLoadingTotals (s.settings s.shown_at) s.shown
  pub agree : (g k : ℕ) → g < groups (now s) → s.changed g k ≡ false →
      k ≤ (s.settings s.shown_at).slots → s.shown g k ≡ total (now s).destinations (s.desk.counts g) k
  pub beyond : (g e k : ℕ) → g < groups (now s) → e < (now s).destinations → s.changed g k ≡ false →
      (s.settings s.shown_at).slots < k → k ≤ (now s).slots → s.desk.counts g e k ≡ 0

-- the commits cover every difference from the loading of the last settle count, and none is wasted; with all that may
-- still come they are at most the pairs for each batch since; and where none was made, all inputs of that loading's pairs are kept
pub record CountsTheWork (s : RepairState) : Type 0 where
  pub covers : (c : Counts) → IsLoading (s.settings s.settled) c → strayed (now s).slots (s.settings s.settled) c s.desk ≤ s.commits
  pub no_waste : (loadings : ℕ → Counts) → AreLoadings s loadings →
      s.commits + left_to_do (now s) (loadings s.accepted) s.desk ≤ all_differences s loadings
  pub none_lost : s.commits ≡ 0 → (u t : ℕ) → u < (now s).nodes → t < (s.settings s.settled).slots → s.desk.kept u t ≢ None
  pub fits : s.commits + undone (now s).nodes (now s).slots s.desk ≤ (s.accepted - s.settled) * ((now s).nodes * (now s).slots)

-- a repair: its settings are of one network, its desk is sound, it shows a loading, where that is up to date nothing is
-- left to do, and its count tells the work
pub record IsRepair (s : RepairState) : Type 0 where
  pub history : AreOfOneNetwork s
  pub desk : IsSound (now s) s.desk
  pub shows : ShowsALoading s
  pub up_to_date : s.shown_at ≡ s.accepted → IsAtRest (now s) s.desk
  pub count : CountsTheWork s

-- at the start the counts are a loading, all inputs are kept, and no pair is active or claimed
pub record OpensAtRest (s : RepairState) : Type 0 where
  pub setting : IsSetting (now s)
  pub loading : IsLoading (now s) s.desk.counts
  pub kept : (u t : ℕ) → u < (now s).nodes → t < (now s).slots → s.desk.kept u t ≡ Some (pair_row (now s) s.desk.counts u t)
  pub idle : (u t : ℕ) → IsIdle s.desk u t

-- a repair begins at rest with no batch and no commit, and shows the totals of its counts
pub record IsOpening (s : RepairState) : Type 0 where
  pub rest : OpensAtRest s
  pub shows : HaveTotals (now s) s.desk.counts s.shown
  pub accepted : s.accepted ≡ 0
  pub settled : s.settled ≡ 0
  pub shown_at : s.shown_at ≡ 0
  pub commits : s.commits ≡ 0
  pub none_changed : (g k : ℕ) → s.changed g k ≡ false
