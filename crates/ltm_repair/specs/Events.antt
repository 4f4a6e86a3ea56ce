-- The events of a repair.
use Rattle.std.specs.Prelude.{◌≡◌, ◌≢◌, ℕ, ◌+◌, ◌<◌, ◌≤◌, ◌⊎◌, List, Bool, true, false}
use Rattle.ltm_loading.specs.Setting.{IsSetting}
use Rattle.ltm_loading.specs.Groups.{groups}
use Rattle.ltm_loading.specs.LoadingTotals.{HaveTotals, AreLoadingTotals}
use Rattle.ltm_loading.specs.Networks.{SameNetwork}
use Rattle.ltm_repair.specs.Desk.{Desk, IsAtRest}
use Rattle.ltm_repair.specs.Moves.{DropsSettled, TakesClaim, GivesBack, Commits, Accepts}
use Rattle.ltm_repair.specs.State.{RepairState, now}

-- a claim that found no pair; a claim of a pair; a claim given back; a commit; an accepted batch; publishing; a settle
-- count that told a number; and what changes nothing: a read, a stop, a refusal
pub data CoreEvent : Type 0 where
  Look : CoreEvent
  Claim : (node slot : ℕ) → CoreEvent
  GiveBack : (node slot : ℕ) → CoreEvent
  Commit : (node slot : ℕ) → CoreEvent
  Accept : CoreEvent
  Publish : CoreEvent
  Settle : (count : ℕ) → CoreEvent
  Stay : CoreEvent

-- the batches, the last settle count and what is shown stay
pub record SameBooks (old new : RepairState) : Type 0 where
  pub settings : new.settings ≡ old.settings
  pub accepted : new.accepted ≡ old.accepted
  pub settled : new.settled ≡ old.settled
  pub shown_at : new.shown_at ≡ old.shown_at
  pub shown : new.shown ≡ old.shown

-- all but the desk stays
pub record OnlyDesk (old new : RepairState) : Type 0 where
  pub books : SameBooks old new
  pub commits : new.commits ≡ old.commits
  pub changed : new.changed ≡ old.changed

pub record Looked (old new : RepairState) : Type 0 where
  pub desk : DropsSettled (now old) old.desk new.desk
  pub only : OnlyDesk old new

-- settled pairs are dropped on the way to the pair that is claimed
pub record Claimed (old : RepairState) (u t : ℕ) (row : List ℕ) (new : RepairState) : Type 0 where
  pub dropped : Desk
  pub drops : DropsSettled (now old) old.desk dropped
  pub takes : TakesClaim (now old) dropped u t row new.desk
  pub only : OnlyDesk old new

pub record GaveBack (old : RepairState) (u t : ℕ) (new : RepairState) : Type 0 where
  pub desk : GivesBack old.desk u t new.desk
  pub only : OnlyDesk old new

-- each count that changed stands in a changed cell, and no changed cell is forgotten
pub record MarksChanges (old new : RepairState) : Type 0 where
  pub stays : (g k : ℕ) → new.changed g k ≡ false → old.changed g k ≡ false
  pub same : (g e k : ℕ) → g < groups (now old) → e < (now old).destinations → k ≤ (now old).slots → new.changed g k ≡ false →
      new.desk.counts g e k ≡ old.desk.counts g e k

-- no other cell becomes a changed one: what a core promises that tells how many cells changed
abbrev pub MarksOnlyChanges : RepairState → RepairState → Type 0
MarksOnlyChanges old new =
    (g k : ℕ) → g < groups (now old) → k ≤ (now old).slots → new.changed g k ≡ true →
    (old.changed g k ≡ true) ⊎ ((e : ℕ) × (e < (now old).destinations) × (new.desk.counts g e k ≢ old.desk.counts g e k))

-- a claimed pair is done, its readers wake, and the count rises by one
pub record CommitHappened (old : RepairState) (u t : ℕ) (row : List ℕ) (wakes : ℕ → ℕ → Bool) (new : RepairState) : Type 0 where
  pub desk : Commits (now old) old.desk u t row wakes new.desk
  pub books : SameBooks old new
  pub commits : new.commits ≡ old.commits + 1
  pub changes : MarksChanges old new

-- one batch more, another setting of the same network; what was settled, shown and counted stays
pub record Accepted (old : RepairState) (touched : ℕ → ℕ → Bool) (new : RepairState) : Type 0 where
  pub desk : Accepts (now old) (now new) old.desk touched new.desk
  pub setting : IsSetting (now new)
  pub network : SameNetwork (now old) (now new)
  pub accepted : new.accepted ≡ old.accepted + 1
  pub settings : (k : ℕ) → k ≤ old.accepted → new.settings k ≡ old.settings k
  pub settled : new.settled ≡ old.settled
  pub shown_at : new.shown_at ≡ old.shown_at
  pub shown : new.shown ≡ old.shown
  pub commits : new.commits ≡ old.commits
  pub changed : new.changed ≡ old.changed

-- at rest the totals of the working counts are shown, and no cell is changed any more
pub record PublishHappened (old new : RepairState) : Type 0 where
  pub rest : IsAtRest (now old) old.desk
  pub desk : new.desk ≡ old.desk
  pub settings : new.settings ≡ old.settings
  pub accepted : new.accepted ≡ old.accepted
  pub settled : new.settled ≡ old.settled
  pub shown_at : new.shown_at ≡ old.accepted
  pub shows : AreLoadingTotals (now old) new.shown
  pub agree : HaveTotals (now old) old.desk.counts new.shown
  pub commits : new.commits ≡ old.commits
  pub none_changed : (g k : ℕ) → new.changed g k ≡ false

-- what is shown is up to date: the commits are told, and count from 0 again
pub record Settled (old : RepairState) (n : ℕ) (new : RepairState) : Type 0 where
  pub up_to_date : old.shown_at ≡ old.accepted
  pub told : n ≡ old.commits
  pub desk : new.desk ≡ old.desk
  pub settings : new.settings ≡ old.settings
  pub accepted : new.accepted ≡ old.accepted
  pub settled : new.settled ≡ old.accepted
  pub shown_at : new.shown_at ≡ old.shown_at
  pub shown : new.shown ≡ old.shown
  pub commits : new.commits ≡ 0
  pub changed : new.changed ≡ old.changed

-- the event leads from s to e
abbrev pub Happens : RepairState → CoreEvent → RepairState → Type 0
Happens s Look e = Looked s e
Happens s (Claim u t) e = (row : List ℕ) × Claimed s u t row e
Happens s (GiveBack u t) e = GaveBack s u t e
Happens s (Commit u t) e = (row : List ℕ) × (wakes : ℕ → ℕ → Bool) × CommitHappened s u t row wakes e
Happens s Accept e = (touched : ℕ → ℕ → Bool) × Accepted s touched e
Happens s Publish e = PublishHappened s e
Happens s (Settle n) e = Settled s n e
Happens s Stay e = e ≡ s
