-- What each call of a repair answers, and exactly when.
use Rattle.std.specs.Prelude.{◌≡◌, ◌≢◌, ◌↔◌, ℕ, ◌<◌, List, Option, Some, None, Bool, true, false}
use Rattle.ltm_loading.specs.Setting.{Setting}
use Rattle.ltm_repair.specs.Desk.{Desk, IsSettled, IsAtRest}
use Rattle.ltm_repair.specs.Moves.{DropsSettled, TakesClaim}
use Rattle.ltm_repair.specs.State.{RepairState, now}
use Rattle.ltm_repair.specs.Events.{OnlyDesk, CommitHappened, GaveBack, Accepted, PublishHappened, Settled}

-- ---- claim: a pair with the number of batches at the claim, its ticket, and its inputs; or that claims are out and their
-- slot has no other pair to do; or that nothing is left to do
pub data ClaimAnswer : Type 0 where
  Got : (node slot ticket : ℕ) (row : List ℕ) → ClaimAnswer
  NotYet : ClaimAnswer
  Rest : ClaimAnswer

-- no pair is claimed
abbrev pub IsNoneClaimed : Setting → Desk → Type 0
IsNoneClaimed s d = (u t : ℕ) → u < s.nodes → t < s.slots → d.claimed u t ≡ None

-- some pair of the slot is claimed
abbrev pub HasClaimAt : Setting → Desk → ℕ → Type 0
HasClaimAt s d t = (u : ℕ) × (u < s.nodes) × (t < s.slots) × (d.claimed u t ≢ None)

-- every active pair of the slot is settled
abbrev pub IsSettledAt : Setting → Desk → ℕ → Type 0
IsSettledAt s d t = (u : ℕ) → u < s.nodes → d.active u t ≡ true → IsSettled s d u t

-- settled pairs are dropped; while claims are out, at their slot alone
pub record DropsAtFront (s : Setting) (old new : Desk) : Type 0 where
  pub drops : DropsSettled s old new
  pub front : (t u v : ℕ) → HasClaimAt s old t → old.active u v ≡ true → new.active u v ≡ false → v ≡ t

-- the desk after a claim: settled pairs are dropped; then one pair is taken, or none was to be had, or none is left
abbrev pub ClaimLeaves : Setting → Desk → ClaimAnswer → Desk → Type 0
ClaimLeaves s old (Got u t ticket row) new = (dropped : Desk) × DropsAtFront s old dropped × TakesClaim s dropped u t row new
ClaimLeaves s old NotYet new = DropsAtFront s old new
ClaimLeaves s old Rest new = DropsAtFront s old new × IsAtRest s new

-- the repair keeps a claim of this pair, ticket and row; its ticket is the number of batches, since a batch voids all
abbrev pub IsKept : RepairState → ℕ → ℕ → ℕ → List ℕ → Type 0
IsKept s u t ticket row = (ticket ≡ s.accepted) × (s.desk.claimed u t ≡ Some row)

-- not yet exactly where claims are out and every active pair of their slot is settled; rest exactly where no pair is claimed
-- and every active pair is settled; else a pair, and the claim that is kept is the one handed out
pub record AnswersClaim (old : RepairState) (answer : ClaimAnswer) (new : RepairState) : Type 0 where
  pub desk : ClaimLeaves (now old) old.desk answer new.desk
  pub only : OnlyDesk old new
  pub kept : (u t ticket : ℕ) (row : List ℕ) → answer ≡ Got u t ticket row → IsKept new u t ticket row
  pub not_yet : (answer ≡ NotYet) ↔ ((t : ℕ) × HasClaimAt (now old) old.desk t × IsSettledAt (now old) old.desk t)
  pub rest : (answer ≡ Rest) ↔ (IsNoneClaimed (now old) old.desk × ((t : ℕ) → t < (now old).slots → IsSettledAt (now old) old.desk t))

-- ---- commit: done; or stale, with the ticket of the work and the number of batches now
pub data CommitAnswer : Type 0 where
  Done : CommitAnswer
  Stale : (claimed_at accepted : ℕ) → CommitAnswer

-- done exactly where a claim of this pair, ticket and row is kept; else stale, and then nothing changes
pub record AnswersCommit (old : RepairState) (u t ticket : ℕ) (row : List ℕ) (wakes : ℕ → ℕ → Bool) (answer : CommitAnswer) (new : RepairState) : Type 0 where
  pub exactly : (answer ≡ Done) ↔ IsKept old u t ticket row
  pub done : answer ≡ Done → CommitHappened old u t row wakes new
  pub stale : (answer ≡ Done → ⊥) → (answer ≡ Stale ticket old.accepted) × (new ≡ old)

-- ---- give back: where the claim is kept its pair is active again; else nothing changes
pub record AnswersGiveBack (old : RepairState) (u t ticket : ℕ) (row : List ℕ) (new : RepairState) : Type 0 where
  pub kept : IsKept old u t ticket row → GaveBack old u t new
  pub stale : (IsKept old u t ticket row → ⊥) → new ≡ old

-- ---- accept: the batch makes another setting, or is refused and changes nothing; which of the two is the scenario's to say
pub record AnswersAccept (old : RepairState) (next : Setting) (touched : ℕ → ℕ → Bool) (is_taken : Bool) (new : RepairState) : Type 0 where
  pub taken : is_taken ≡ true → Accepted old touched new × (now new ≡ next)
  pub refused : is_taken ≡ false → new ≡ old

-- ---- publish: the version that is shown now; or that the repair is not at rest
pub data PublishAnswer : Type 0 where
  Shown : (version : ℕ) → PublishAnswer
  NotAtRest : PublishAnswer

-- all batches are shown exactly where no pair is active or claimed; else the repair is not at rest, and nothing changes
pub record AnswersPublish (old : RepairState) (answer : PublishAnswer) (new : RepairState) : Type 0 where
  pub exactly : (answer ≡ Shown old.accepted) ↔ IsAtRest (now old) old.desk
  pub shown : answer ≡ Shown old.accepted → PublishHappened old new
  pub not_at_rest : (answer ≡ Shown old.accepted → ⊥) → (answer ≡ NotAtRest) × (new ≡ old)

-- ---- settle count: the commits exactly where no pair is active or claimed and all batches are shown; else none, and then
-- nothing changes
pub record AnswersSettle (old : RepairState) (answer : Option ℕ) (new : RepairState) : Type 0 where
  pub exactly : (answer ≡ Some old.commits) ↔ (IsAtRest (now old) old.desk × (old.shown_at ≡ old.accepted))
  pub told : answer ≡ Some old.commits → Settled old old.commits new
  pub none : (answer ≡ Some old.commits → ⊥) → (answer ≡ None) × (new ≡ old)
