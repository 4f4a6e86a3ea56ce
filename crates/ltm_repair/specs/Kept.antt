-- What every run of events keeps.
use Rattle.std.specs.Prelude.{◌≡◌, ◌≢◌, ◌↔◌, ℕ, ◌<◌, ◌≤◌, ◌⊎◌, List, Some, None, Bool, true}
use Rattle.ltm_loading.specs.Pairs.{pair_row}
use Rattle.ltm_loading.specs.Loading.{IsLoading}
use Rattle.ltm_loading.specs.LoadingTotals.{AreLoadingTotals}
use Rattle.ltm_repair.specs.Desk.{IsAtRest}
use Rattle.ltm_repair.specs.State.{RepairState, now}
use Rattle.ltm_repair.specs.Repair.{IsRepair, IsOpening}
use Rattle.ltm_repair.specs.Events.{CoreEvent, Claim, Accepted, PublishHappened, Settled, Happens}
use Rattle.ltm_repair.specs.Runs.{CoreRun, commit_in, batch_in}

abbrev pub OpeningIsRepair : Type 0
OpeningIsRepair = (s : RepairState) → IsOpening s → IsRepair s

-- whatever events happen, in whatever order, what holds of a repair still holds
abbrev pub RunsKeepFacts : Type 0
RunsKeepFacts = (s e : RepairState) (events : List CoreEvent) → IsRepair s → CoreRun s events e → IsRepair e

-- at rest the working counts are the loading of the setting as it is now
abbrev pub RestIsLoading : Type 0
RestIsLoading = (s : RepairState) → IsRepair s → IsAtRest (now s) s.desk → IsLoading (now s) s.desk.counts

-- what is shown are the totals of the loading of as many batches as are shown; where these are all, the repair is at rest
pub record ShowsTheLoading (s : RepairState) : Type 0 where
  pub prefix : AreLoadingTotals (s.settings s.shown_at) s.shown
  pub up_to_date : s.shown_at ≡ s.accepted → AreLoadingTotals (now s) s.shown × IsAtRest (now s) s.desk

abbrev pub ShownIsLoading : Type 0
ShownIsLoading = (s : RepairState) → IsRepair s → ShowsTheLoading s

-- after publishing, and after a settle count, what is shown are the totals of the loading of all batches
abbrev pub PublishingShowsAll : Type 0
PublishingShowsAll =
    (s e : RepairState) → IsRepair s → PublishHappened s e ⊎ ((n : ℕ) × Settled s n e) → (e.shown_at ≡ e.accepted) × AreLoadingTotals (now e) e.shown

-- the shown number never falls, nor does the number of batches, and accepted batches stay as they are
pub record NothingIsTakenBack (s e : RepairState) : Type 0 where
  pub shown : s.shown_at ≤ e.shown_at
  pub accepted : s.accepted ≤ e.accepted
  pub settings : (k : ℕ) → k ≤ s.accepted → e.settings k ≡ s.settings k

abbrev pub RunsTakeNothingBack : Type 0
RunsTakeNothingBack = (s e : RepairState) (events : List CoreEvent) → IsRepair s → CoreRun s events e → NothingIsTakenBack s e

-- a pair is claimed only where what it reads now is not what is kept of it
abbrev pub ClaimsHaveChanged : Type 0
ClaimsHaveChanged =
    (s e : RepairState) (u t : ℕ) → IsRepair s → Happens s (Claim u t) e → s.desk.kept u t ≢ Some (pair_row (now s) s.desk.counts u t)

-- a batch makes those old pairs active that were active, were claimed or are touched, and no other
abbrev pub BatchesWakeTouched : Type 0
BatchesWakeTouched =
    (s e : RepairState) (touched : ℕ → ℕ → Bool) → Accepted s touched e → (u t : ℕ) → t < (now s).slots →
    (e.desk.active u t ≡ true) ↔ ((s.desk.active u t ≡ true) ⊎ ((s.desk.claimed u t ≢ None) ⊎ (touched u t ≡ true)))

-- no event but a commit or a batch makes a pair active that was neither active nor claimed
abbrev pub OthersWakeNone : Type 0
OthersWakeNone =
    (s e : RepairState) (x : CoreEvent) → Happens s x e → commit_in x ≡ 0 → batch_in x ≡ 0 → (u t : ℕ) →
    e.desk.active u t ≡ true → (s.desk.active u t ≡ true) ⊎ (s.desk.claimed u t ≢ None)
