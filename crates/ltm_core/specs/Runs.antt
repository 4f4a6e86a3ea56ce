-- Runs of a core: its events one after another, in any order, by any number of owners.
use Rattle.std.specs.Prelude.{◌≡◌, ◌≢◌, ◌↔◌, Bool, true, ℕ, ◌+◌, ◌*◌, ◌<◌, ◌≤◌, ◌⊎◌, List, [], ◌∷◌, ◌++◌, Option, Some, None, Result, Ok, Err}
use Rattle.ltm_curve.specs.Counts.{Counts}
use Rattle.ltm_curve.specs.TotalCurves.{total_at}
use Rattle.ltm_scenario.specs.declared.edit.Edit.{Edit}
use Rattle.ltm_scenario.specs.declared.edit.EditFault.{EditFault}
use Rattle.ltm_loading.specs.Setting.{Setting}
use Rattle.ltm_loading.specs.Pairs.{pair_row}
use Rattle.ltm_loading.specs.Loading.{IsLoading}
use Rattle.ltm_loading.specs.LoadingTotals.{AreLoadingTotals}
use Rattle.ltm_loading.specs.Differing.{unlike, row_of, differing as how_many_differ}
use Rattle.ltm_setting.specs.Setting.{setting_of}
use Rattle.ltm_flows.specs.Shown.{version_of, curves_of}
use Rattle.ltm_repair.specs.Answers.{AnswersClaim}
use Rattle.ltm_repair.specs.Making.{claim_event, settle_event}
use Rattle.ltm_repair.specs.Events.{CoreEvent, Accepted, Look, Claim, GiveBack, Commit, Accept, Publish, Stay, Happens}
use Rattle.ltm_repair.specs.Runs.{in_all, look_in, claim_in, give_back_in, commit_in, batch_in, work_in, commits_of, commits_in, AcceptsNothing}
use Rattle.ltm_core.specs.declared.answers.Claimed.{Claimed}
use Rattle.ltm_core.specs.declared.answers.Committed.{Committed}
use Rattle.ltm_core.specs.declared.answers.Committed.TheVariants.{Ok as Done, Stale}
use Rattle.ltm_core.specs.declared.answers.Recomputed.{Recomputed}
use Rattle.ltm_core.specs.declared.answers.Recomputed.TheVariants.{Done as DoneAnew, NotYet as ClaimsOut, Rest as NoneLeft}
use Rattle.ltm_core.specs.declared.answers.Published.{Published}
use Rattle.ltm_core.specs.declared.answers.Published.TheVariants.{Done as Shown, NotAtRest}
use Rattle.ltm_core.specs.Claims.{ClaimData, DoneData}
use Rattle.ltm_core.specs.Log.{version_now, settled_of}
use Rattle.ltm_core.specs.Settling.{setting_at}
use Rattle.ltm_core.specs.Cores.{CoreData, repair_of, IsResting, claims_of, left_of, undone_of, IsCore}
use Rattle.ltm_core.specs.Histories.{CameBy}
use Rattle.ltm_core.specs.CoreAnswers.{with_event, Adds, answer_in, TellsCommit, TellsRecompute, TellsGiveBack, TellsAccept, TellsPublish, TellsSettle}

-- the event leads from one core to another, and stands in its history
abbrev pub Does : CoreData → CoreEvent → CoreData → Type 0
Does d x e = Happens (repair_of d) x (repair_of e) × Adds d x e

-- these events lead from d to e, in this order
abbrev pub IsRun : CoreData → List CoreEvent → CoreData → Type 0
IsRun d [] e = e ≡ d
IsRun d (x ∷ xs) e = (m : CoreData) × Does d x m × IsRun m xs e

-- a call of a core was made: one event, or none, and the core is not stopped by it
pub record MakesOneEvent (d e : CoreData) : Type 0 where
  pub event : CoreEvent
  pub does : Does d event e
  pub stopped : e.stopped ≡ d.stopped

-- a history with all these events more
abbrev pub with_events : List CoreEvent → List CoreEvent → List CoreEvent
with_events [] history = history
with_events (x ∷ xs) history = with_events xs (with_event x history)

-- ---- whatever a call answers, an event has happened, or two
abbrev pub commit_event : DoneData → Committed → CoreEvent
commit_event done (Done scratch) = Commit done.pair.node.0 done.pair.slot
commit_event done (Stale claimed_at now scratch) = Stay

-- a pair that is computed anew is claimed and committed; where there is none, it is looked for
abbrev pub recompute_events : Recomputed → List CoreEvent
recompute_events (DoneAnew pair) = Claim pair.node.0 pair.slot ∷ Commit pair.node.0 pair.slot ∷ []
recompute_events ClaimsOut = Look ∷ []
recompute_events NoneLeft = Look ∷ []

abbrev pub accept_event : Result (Unit {0}) (List Edit × EditFault) → CoreEvent
accept_event (Ok taken) = Accept
accept_event (Err refused) = Stay

abbrev pub publish_event : Published → CoreEvent
publish_event (Shown version) = Publish
publish_event NotAtRest = Stay

pub record CallsAreEvents : Type 0 where
  pub claim : (d e : CoreData) (answer : Claimed) → AnswersClaim (repair_of d) (answer_in answer) (repair_of e) →
      Adds d (claim_event (answer_in answer)) e → Does d (claim_event (answer_in answer)) e
  pub commit : (d e : CoreData) (done : DoneData) (answer : Committed) → TellsCommit d done answer e → Does d (commit_event done answer) e
  pub recompute : (d e : CoreData) (answer : Recomputed) → TellsRecompute d answer e → IsRun d (recompute_events answer) e
  pub give_back : (d e : CoreData) (claim : ClaimData) → TellsGiveBack d claim e → Does d (GiveBack claim.pair.node.0 claim.pair.slot) e ⊎ Does d Stay e
  pub accept : (d e : CoreData) (batch : List Edit) (answer : Result (Unit {0}) (List Edit × EditFault)) → TellsAccept d batch answer e → Does d (accept_event answer) e
  pub publish : (d e : CoreData) (answer : Published) → TellsPublish d answer e → Does d (publish_event answer) e
  pub settle : (d e : CoreData) (answer : Option ℕ) → TellsSettle d answer e → Does d (settle_event answer) e

-- ---- what holds of every run
-- the setting of all accepted batches
abbrev pub setting_in : CoreData → Setting
setting_in d = setting_at d.log (version_now d.log)

-- a core rests, accepts one batch, which leads to m, and by events without another comes to rest at e
pub record RepairsBatch (d m e : CoreData) (events : List CoreEvent) : Type 0 where
  pub core : IsCore d
  pub rest : IsResting d
  pub batch : Does d Accept m
  pub run : IsRun m events e
  pub no_other : AcceptsNothing events
  pub rest_again : IsResting e

-- events without a batch lead from d to e
pub record WorksOn (d : CoreData) (events : List CoreEvent) (e : CoreData) : Type 0 where
  pub core : IsCore d
  pub run : IsRun d events e
  pub no_batch : AcceptsNothing events

pub record HoldsOfRuns : Type 0 where
  -- the events of a run are those that the history has more
  pub history : (d e : CoreData) (events : List CoreEvent) → IsRun d events e → e.history ≡ with_events events d.history
  -- the shown number and the number of batches never fall
  pub shown : (d e : CoreData) (events : List CoreEvent) → IsCore d → IsRun d events e → version_of d.shown ≤ version_of e.shown
  pub accepted : (d e : CoreData) (events : List CoreEvent) → IsCore d → IsRun d events e → version_now d.log ≤ version_now e.log
  -- a pair is claimed only where what it reads now is not what is kept of it
  pub changed : (d e : CoreData) (u t : ℕ) → IsCore d → Does d (Claim u t) e → (repair_of d).desk.kept u t ≢ Some (pair_row (setting_in d) (repair_of d).desk.counts u t)
  -- a batch makes those pairs active that were active, were claimed or are touched, and no other; nothing but a commit or a
  -- batch makes a pair active that was neither active nor claimed
  pub woken : (d e : CoreData) (touched : ℕ → ℕ → Bool) → Accepted (repair_of d) touched (repair_of e) → (u t : ℕ) → t < (setting_in d).slots →
      ((repair_of e).desk.active u t ≡ true) ↔ (((repair_of d).desk.active u t ≡ true) ⊎ (((repair_of d).desk.claimed u t ≢ None) ⊎ (touched u t ≡ true)))
  pub others : (d e : CoreData) (x : CoreEvent) → Does d x e → commit_in x ≡ 0 → batch_in x ≡ 0 → (u t : ℕ) → (repair_of e).desk.active u t ≡ true →
      ((repair_of d).desk.active u t ≡ true) ⊎ ((repair_of d).desk.claimed u t ≢ None)
  -- without a batch no pair is committed twice, and each commit leaves one pair less whose kept inputs are not those of the loading
  pub none_twice : (d e : CoreData) (events : List CoreEvent) → WorksOn d events e → (u t : ℕ) → commits_of u t events ≤ 1
  pub useful : (d e : CoreData) (events : List CoreEvent) (c : Counts) → WorksOn d events e → IsLoading (setting_in d) c → commits_in events + left_of e c ≡ left_of d c
  pub drained : (d e : CoreData) (events : List CoreEvent) (c : Counts) → WorksOn d events e → IsResting e → IsLoading (setting_in d) c → commits_in events ≡ left_of d c
  -- from rest over one batch to rest those pairs are committed that read other numbers, each once, and no other
  pub differences : (d m e : CoreData) (events : List CoreEvent) (a b : Counts) → RepairsBatch d m e events → IsLoading (setting_in d) a → IsLoading (setting_in m) b →
      (u t : ℕ) → u < (setting_in m).nodes → t < (setting_in m).slots → commits_of u t events ≡ unlike (row_of (setting_in d) a u t) (Some (pair_row (setting_in m) b u t))
  pub differing : (d m e : CoreData) (events : List CoreEvent) (a b : Counts) → RepairsBatch d m e events → IsLoading (setting_in d) a → IsLoading (setting_in m) b →
      commits_in events ≡ how_many_differ (setting_in d) (setting_in m) a b
  -- the work between two batches is bounded
  pub bounded : (d e : CoreData) (events : List CoreEvent) → WorksOn d events e → commits_in events + undone_of e ≤ undone_of d
  pub balance : (d e : CoreData) (events : List CoreEvent) → WorksOn d events e → claims_of e + (commits_in events + in_all give_back_in events) ≡ claims_of d + in_all claim_in events
  pub schedule : (d e : CoreData) (events : List CoreEvent) → WorksOn d events e → claims_of d ≡ 0 →
      in_all work_in events ≤ 2 * ((setting_in d).nodes * (setting_in d).slots) + 2 * in_all give_back_in events + in_all look_in events

-- ---- what holds of every core
pub record HoldsOfCore (d : CoreData) : Type 0 where
  pub core : IsCore d
  -- its history led to it from a core that began with the opening scenario of its log
  pub came : CameBy d
  -- between two batches of its history, whoever made the calls and in whatever order, no pair is committed twice
  pub none_twice : (newer stretch older : List CoreEvent) → d.history ≡ newer ++ (stretch ++ older) → AcceptsNothing stretch → (u t : ℕ) → commits_of u t stretch ≤ 1
  -- at rest the working counts are the loading of the scenario as it is now
  pub rest : IsResting d → IsLoading (setting_of d.scenario) (repair_of d).desk.counts
  -- where all batches are shown, the core rests, and what is shown are the totals of the loading of the scenario as it is now
  pub up_to_date : version_of d.shown ≡ version_now d.log → IsResting d × AreLoadingTotals (setting_of d.scenario) (total_at (curves_of d.shown))
  -- where no commit was made since the last settle count, the pairs with other inputs than the loading are those by which
  -- it differs from the loading of the last settle count
  pub uncounted : d.commits ≡ 0 → (before after : Counts) → IsLoading (setting_at d.log (settled_of d.log)) before → IsLoading (setting_in d) after →
      left_of d after ≡ how_many_differ (setting_at d.log (settled_of d.log)) (setting_in d) before after
