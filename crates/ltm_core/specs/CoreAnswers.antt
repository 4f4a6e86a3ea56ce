-- What the calls of a core answer, and exactly when.
use Rattle.std.specs.Prelude.{◌≡◌, ◌≢◌, ℕ, ◌+◌, ◌<◌, ◌||◌, List, [], ◌∷◌, Option, Some, None, Result, Ok, Err, false}
use Rattle.ltm_units.specs.declared.places.Pair.{Pair}
use Rattle.ltm_node.specs.Inputs.{Inputs}
use Rattle.ltm_scenario.specs.declared.edit.Edit.{Edit}
use Rattle.ltm_scenario.specs.declared.edit.EditFault.{EditFault}
use Rattle.ltm_scenario.specs.declared.edit.EditCause.TheVariants.{NoMemory}
use Rattle.ltm_scenario.specs.Data.{ScenarioData}
use Rattle.ltm_scenario.specs.Edits.{edited_all}
use Rattle.ltm_loading.specs.Pairs.{shape_at}
use Rattle.ltm_setting.specs.Setting.{setting_of}
use Rattle.ltm_flows.specs.Shown.{version_of, SameLoading}
use Rattle.ltm_repair.specs.Answers.{ClaimAnswer, Got, NotYet, Rest, AnswersClaim}
use Rattle.ltm_repair.specs.Events.{CoreEvent, Look, Claim, GiveBack, Commit, Accept, Publish, Settle, Stay, CommitHappened, GaveBack, Accepted, PublishHappened, Settled}
use Rattle.ltm_working.specs.Committing.{readers, rewritten}
use Rattle.ltm_working.specs.Batches.{touches}
use Rattle.ltm_working.specs.Cells.{count_cells}
use Rattle.ltm_core.specs.declared.answers.Claimed.{Claimed}
use Rattle.ltm_core.specs.declared.answers.Claimed.TheVariants.{Got as GotClaim, NotYet as NoneYet, Rest as AtRest}
use Rattle.ltm_core.specs.declared.answers.Committed.{Committed}
use Rattle.ltm_core.specs.declared.answers.Committed.TheVariants.{Ok as Done, Stale}
use Rattle.ltm_core.specs.declared.answers.Recomputed.{Recomputed}
use Rattle.ltm_core.specs.declared.answers.Recomputed.TheVariants.{Done as DoneAnew, NotYet as ClaimsOut, Rest as NoneLeft}
use Rattle.ltm_core.specs.declared.answers.Published.{Published}
use Rattle.ltm_core.specs.declared.answers.Published.TheVariants.{Done as Shown, NotAtRest}
use Rattle.ltm_core.specs.Claims.{ClaimData, DoneData}
use Rattle.ltm_core.specs.Log.{version_now, scenario_now, with_batch, with_mark}
use Rattle.ltm_core.specs.Settling.{IsSettleCount}
use Rattle.ltm_core.specs.Cores.{CoreData, desk_in, repair_of, IsResting, IsNoneOut}

-- ---- a core when it begins: with the loading of its scenario, which is worked out and shown
pub record IsOpeningCore (s : ScenarioData) (d : CoreData) : Type 0 where
  pub log : d.log ≡ record { opening = s; batches = [] }
  pub scenario : d.scenario ≡ s
  pub shown : version_of d.shown ≡ 0
  pub commits : d.commits ≡ 0
  pub running : d.stopped ≡ false
  pub history : d.history ≡ []
  pub rest : IsResting d
  pub none_out : IsNoneOut d

-- the log and what is shown stay
abbrev pub Keeps : CoreData → CoreData → Type 0
Keeps old new = (new.log ≡ old.log) × (new.shown ≡ old.shown)

-- all but the table and the history stays
abbrev pub KeepsAll : CoreData → CoreData → Type 0
KeepsAll old new = new ≡ record old { table = new.table; history = new.history }

-- a history with one event more; what changes nothing adds nothing
abbrev pub with_event : CoreEvent → List CoreEvent → List CoreEvent
with_event Stay history = history
with_event event history = event ∷ history

-- the history has this event more, and no other
abbrev pub Adds : CoreData → CoreEvent → CoreData → Type 0
Adds old event new = new.history ≡ with_event event old.history

-- ---- claims
-- the answer of a claim without its buffers
abbrev pub answer_in : Claimed → ClaimAnswer
answer_in (GotClaim claim) = Got claim.pair.node.0 claim.pair.slot claim.ticket claim.inputs.row
answer_in (NoneYet scratch) = NotYet
answer_in (AtRest scratch) = Rest

-- a kept claim has this pair, ticket and inputs
pub record IsKeptClaim (d : CoreData) (pair : Pair) (ticket : ℕ) (n : Inputs) : Type 0 where
  pub current : ticket ≡ version_now d.log
  pub claimed : (desk_in d).claimed pair.node.0 pair.slot ≡ Some n.row
  pub shape : n.shape ≡ shape_at (setting_of d.scenario) pair.node.0

-- the claim that is handed out is kept
abbrev pub KeepsClaim : Claimed → CoreData → Type 0
KeepsClaim (GotClaim claim) new = IsKeptClaim new claim.pair claim.ticket claim.inputs
KeepsClaim (NoneYet scratch) new = Unit {0}
KeepsClaim (AtRest scratch) new = Unit {0}

-- ---- commits
-- the pair is done; its exact readers, and no other pair, become active where they were not; the cells in which a count
-- became another one, and no other cell, are changed where they were not; the count of commits rose by one
pub record CommitsDone (old : CoreData) (pair : Pair) (row : List ℕ) (new : CoreData) : Type 0 where
  pub commits : CommitHappened (repair_of old) pair.node.0 pair.slot row
      (readers (setting_of old.scenario) (desk_in old) (desk_in new) pair.node.0 pair.slot) (repair_of new)
  pub cells : (g k : ℕ) → (repair_of new).changed g k ≡ ((repair_of old).changed g k || rewritten (setting_of old.scenario) (desk_in old) (desk_in new) g k)
  pub keeps : new ≡ record old { table = new.table; commits = old.commits + 1; history = Commit pair.node.0 pair.slot ∷ old.history }

-- a commit is stale exactly where no kept claim has its pair, ticket and inputs; then nothing changes
abbrev pub TellsCommit : CoreData → DoneData → Committed → CoreData → Type 0
TellsCommit old done (Done scratch) new = IsKeptClaim old done.pair done.ticket done.solved.inputs × CommitsDone old done.pair done.solved.inputs.row new
TellsCommit old done (Stale claimed_at now scratch) new =
    (IsKeptClaim old done.pair done.ticket done.solved.inputs → ⊥) × (claimed_at ≡ done.ticket) × (now ≡ version_now old.log) × (new ≡ old)

-- ---- a pair is computed anew: a claim of it leads to a core between, which no call leaves, and its commit from there to
-- the new one
pub record RecomputesPair (old : CoreData) (pair : Pair) (new : CoreData) : Type 0 where
  pub between : CoreData
  pub row : List ℕ
  pub claims : AnswersClaim (repair_of old) (Got pair.node.0 pair.slot (version_now old.log) row) (repair_of between)
  pub keeps : KeepsAll old between
  pub adds : Adds old (Claim pair.node.0 pair.slot) between
  pub commits : CommitsDone between pair row new

-- or there is no pair yet, or none is left
abbrev pub TellsRecompute : CoreData → Recomputed → CoreData → Type 0
TellsRecompute old (DoneAnew pair) new = RecomputesPair old pair new
TellsRecompute old ClaimsOut new = AnswersClaim (repair_of old) NotYet (repair_of new) × KeepsAll old new × Adds old Look new
TellsRecompute old NoneLeft new = AnswersClaim (repair_of old) Rest (repair_of new) × KeepsAll old new × Adds old Look new

-- ---- give back: the pair is active again where its claim is kept; else nothing changes
pub record TellsGiveBack (old : CoreData) (claim : ClaimData) (new : CoreData) : Type 0 where
  pub kept : IsKeptClaim old claim.pair claim.ticket claim.inputs → GaveBack (repair_of old) claim.pair.node.0 claim.pair.slot (repair_of new)
  pub adds : IsKeptClaim old claim.pair claim.ticket claim.inputs → Adds old (GiveBack claim.pair.node.0 claim.pair.slot) new
  pub stale : (IsKeptClaim old claim.pair claim.ticket claim.inputs → ⊥) → new ≡ old
  pub keeps : KeepsAll old new

-- ---- accept: the batch is last in the log, the scenario is as edited, claims are void, and a pair is active exactly where
-- it was active or claimed, is touched by the batch, or is new; what is shown stays
pub record AcceptsBatch (old : CoreData) (batch : List Edit) (new : CoreData) : Type 0 where
  pub edited : edited_all (scenario_now old.log) batch ≡ Ok (scenario_now new.log)
  pub keeps : new ≡ record old { log = with_batch old.log batch; scenario = scenario_now new.log; table = new.table; shown = new.shown; history = Accept ∷ old.history }
  pub shown : SameLoading old.shown new.shown
  pub accepted : Accepted (repair_of old) (touches old.scenario batch) (repair_of new)
  pub none_out : IsNoneOut new

-- all but room is as before
pub record LooksAs (old new : CoreData) : Type 0 where
  pub log : new.log ≡ old.log
  pub scenario : new.scenario ≡ old.scenario
  pub commits : new.commits ≡ old.commits
  pub stopped : new.stopped ≡ old.stopped
  pub history : new.history ≡ old.history
  pub shown : SameLoading old.shown new.shown
  pub desk : desk_in new ≡ desk_in old
  pub repair : repair_of new ≡ repair_of old

-- a refused batch is given back with its first fault, and changes nothing but room
abbrev pub TellsAccept : CoreData → List Edit → Result (Unit {0}) (List Edit × EditFault) → CoreData → Type 0
TellsAccept old batch (Ok done) new = AcceptsBatch old batch new
TellsAccept old batch (Err e) new = (e.0 ≡ batch) × LooksAs old new × (e.1.cause ≢ NoMemory → edited_all (scenario_now old.log) batch ≡ Err e.1)

-- ---- publish: the working counts are shown exactly at rest; else nothing changes
pub record PublishesAll (old : CoreData) (version : ℕ) (new : CoreData) : Type 0 where
  pub all : version ≡ version_now old.log
  pub rest : IsResting old
  pub shown : version_of new.shown ≡ version
  pub published : PublishHappened (repair_of old) (repair_of new)
  pub cleared : count_cells (setting_of new.scenario) (repair_of new).changed ≡ 0
  pub keeps : new ≡ record old { table = new.table; shown = new.shown; history = Publish ∷ old.history }

abbrev pub TellsPublish : CoreData → Published → CoreData → Type 0
TellsPublish old (Shown version) new = PublishesAll old version new
TellsPublish old NotAtRest new = (IsResting old → ⊥) × (new ≡ old)

-- ---- settle count: the commits are told where all batches are shown, and then no pair is active or claimed; a mark is put
-- after the last batch, and the count begins again
pub record SettlesAll (old : CoreData) (n : ℕ) (new : CoreData) : Type 0 where
  pub told : n ≡ old.commits
  pub counts : IsSettleCount old.log n
  pub rest : IsResting old
  pub shown : version_of old.shown ≡ version_now old.log
  pub settled : Settled (repair_of old) n (repair_of new)
  pub keeps : new ≡ record old { log = with_mark old.log; commits = 0; history = Settle n ∷ old.history }

-- none where not all batches are shown, as where a pair is active or claimed; then nothing changes
abbrev pub TellsSettle : CoreData → Option ℕ → CoreData → Type 0
TellsSettle old None new = (version_of old.shown < version_now old.log) × (new ≡ old)
TellsSettle old (Some n) new = SettlesAll old n new
