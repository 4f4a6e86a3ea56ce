-- What an editor and a worker put back, and what the editor's settle is.
use Rattle.std.proofs.Common.{◌≡◌, ℕ, ◌+◌, List, [], ◌∷◌, ◌++◌, true, refl, ap, sym, subst, ◌∙◌, arith}
use Rattle.std.proofs.lemmas.List.{append-nil}
use Rattle.ltm_flows.specs.Shown.{version_of}
use Rattle.ltm_repair.specs.Answers.{ClaimAnswer, Got, NotYet, Rest, AnswersClaim}
use Rattle.ltm_repair.specs.Events.{Commit, Publish, Stay}
use Rattle.ltm_repair.specs.Making.{claim_event}
use Rattle.ltm_core.specs.declared.entry.LogEntry.{LogEntry}
use Rattle.ltm_core.specs.declared.entry.LogEntry.TheVariants.{Mark}
use Rattle.ltm_core.specs.declared.answers.Claimed.{Claimed}
use Rattle.ltm_core.specs.declared.answers.Committed.{Committed}
use Rattle.ltm_core.specs.declared.answers.Committed.TheVariants.{Ok as Done, Stale}
use Rattle.ltm_core.specs.declared.answers.Recomputed.{Recomputed}
use Rattle.ltm_core.specs.declared.answers.Recomputed.TheVariants.{Done as DoneAnew, NotYet as ClaimsOut, Rest as NoneLeft}
use Rattle.ltm_core.specs.declared.answers.Published.{Published}
use Rattle.ltm_core.specs.declared.answers.Published.TheVariants.{Done as Shown, NotAtRest}
use Rattle.ltm_core.specs.Claims.{DoneData}
use Rattle.ltm_core.specs.Log.{Log, version_now}
use Rattle.ltm_core.specs.Cores.{CoreData, repair_of}
use Rattle.ltm_core.specs.CoreAnswers.{answer_in, KeepsAll, Adds, CommitsDone, TellsCommit, TellsRecompute, TellsPublish, SettlesAll}
use Rattle.ltm_core.specs.Runs.{MakesOneEvent, CallsAreEvents, commit_event, publish_event}
use Rattle.ltm_core.specs.Histories.{CameBy}
use Rattle.ltm_core.specs.Told.{told_of, done_to, TellsLog, settles_of}
use Rattle.ltm_core.specs.Telling.{IsNoEditors, ListLaws}
use Rattle.ltm_workers.specs.Beside.{CountsCommits, SettlesBeside}

-- ---- calls that leave the list
claim_is_work : (answer : ClaimAnswer) → IsNoEditors (claim_event answer)
claim_is_work (Got u t ticket row) = refl
claim_is_work NotYet = refl
claim_is_work Rest = refl

pub claim_told : (laws : ListLaws) (d e : CoreData) (answer : ClaimAnswer) → KeepsAll d e → Adds d (claim_event answer) e → told_of e ≡ told_of d
claim_told laws d e answer keeps adds = laws.stays d e (claim_event answer) (ap (λ (x : CoreData). x.log) keeps) adds (claim_is_work answer)

commit_done_told : (laws : ListLaws) (d e : CoreData) (done : DoneData) → CommitsDone d done.pair done.solved.inputs.row e → told_of e ≡ told_of d
commit_done_told laws d e done is =
    laws.stays d e (Commit done.pair.node.0 done.pair.slot) (ap (λ (x : CoreData). x.log) is.keeps) (ap (λ (x : CoreData). x.history) is.keeps) refl

pub commit_told : (laws : ListLaws) (d e : CoreData) (done : DoneData) (answer : Committed) → TellsCommit d done answer e → told_of e ≡ told_of d
commit_told laws d e done (Done scratch) (kept, is) = commit_done_told laws d e done is
commit_told laws d e done (Stale claimed_at now scratch) (none, a, b, same) = ap told_of same

pub publish_told : (laws : ListLaws) (d e : CoreData) (answer : Published) → TellsPublish d answer e → told_of e ≡ told_of d
publish_told laws d e (Shown version) is = laws.stays d e Publish (ap (λ (x : CoreData). x.log) is.keeps) (ap (λ (x : CoreData). x.history) is.keeps) refl
publish_told laws d e NotAtRest (busy, same) = ap told_of same

pub recompute_told : (laws : ListLaws) (d e : CoreData) (answer : Recomputed) → TellsRecompute d answer e → told_of e ≡ told_of d
recompute_told laws d e (DoneAnew pair) is =
    laws.stays is.between e (Commit pair.node.0 pair.slot) (ap (λ (x : CoreData). x.log) is.commits.keeps) (ap (λ (x : CoreData). x.history) is.commits.keeps) refl
    ∙ claim_told laws d is.between (Got pair.node.0 pair.slot (version_now d.log) is.row) is.keeps is.adds
recompute_told laws d e ClaimsOut (answers, keeps, adds) = claim_told laws d e NotYet keeps adds
recompute_told laws d e NoneLeft (answers, keeps, adds) = claim_told laws d e Rest keeps adds

pub stopped_told : (d e : CoreData) → e ≡ record d { stopped = true } → told_of e ≡ told_of d
unfolding told_of done_to
stopped_told d e is = ap told_of is

-- ---- a call is one event, or none
pub stays_one : (d : CoreData) → MakesOneEvent d d
stays_one d = record { event = Stay; does = (refl, refl); stopped = refl }

pub claim_one : CallsAreEvents → (d e : CoreData) (answer : Claimed) → AnswersClaim (repair_of d) (answer_in answer) (repair_of e) → KeepsAll d e → Adds d (claim_event (answer_in answer)) e → MakesOneEvent d e
claim_one events d e answer told keeps adds = record { event = claim_event (answer_in answer); does = events.claim d e answer told adds; stopped = ap (λ (x : CoreData). x.stopped) keeps }

commit_stays : (d e : CoreData) (done : DoneData) (answer : Committed) → TellsCommit d done answer e → e.stopped ≡ d.stopped
commit_stays d e done (Done scratch) (kept, is) = ap (λ (x : CoreData). x.stopped) is.keeps
commit_stays d e done (Stale claimed_at now scratch) (none, a, b, same) = ap (λ (x : CoreData). x.stopped) same

pub commit_one : CallsAreEvents → (d e : CoreData) (done : DoneData) (answer : Committed) → TellsCommit d done answer e → MakesOneEvent d e
commit_one events d e done answer told = record { event = commit_event done answer; does = events.commit d e done answer told; stopped = commit_stays d e done answer told }

publish_stays : (d e : CoreData) (answer : Published) → TellsPublish d answer e → e.stopped ≡ d.stopped
publish_stays d e (Shown version) is = ap (λ (x : CoreData). x.stopped) is.keeps
publish_stays d e NotAtRest (busy, same) = ap (λ (x : CoreData). x.stopped) same

pub publish_one : CallsAreEvents → (d e : CoreData) (answer : Published) → TellsPublish d answer e → MakesOneEvent d e
publish_one events d e answer told = record { event = publish_event answer; does = events.publish d e answer told; stopped = publish_stays d e answer told }

-- ---- what is put back
-- the list that was found
pub kept_list : (found mine : List LogEntry) (held d e : CoreData) → d ≡ held → told_of held ≡ mine → found ≡ mine → told_of e ≡ told_of d → (rest : List LogEntry) × (found ++ rest ≡ told_of e)
kept_list found mine held d e at had is same = ([], append-nil found ∙ is ∙ sym had ∙ ap told_of (sym at) ∙ sym same)

-- the list that was found, and a mark
pub marked_list : (found mine : List LogEntry) (held d e : CoreData) → d ≡ held → told_of held ≡ mine → found ≡ mine → told_of e ≡ told_of d ++ Mark ∷ [] → (rest : List LogEntry) × (found ++ rest ≡ told_of e)
marked_list found mine held d e at had is longer = (Mark ∷ [], ap (λ l. l ++ Mark ∷ []) (is ∙ sym had ∙ ap told_of (sym at)) ∙ sym longer)

-- the editor leaves the list that it found
pub left_list : (list list' : List LogEntry) (held d e : CoreData) → list' ≡ told_of e → told_of e ≡ told_of d → d ≡ held → told_of held ≡ list → list' ≡ list
left_list list list' held d e gave same at had = gave ∙ same ∙ ap told_of at ∙ had

-- ---- a settle that was counted
pub counts_of : (d e : CoreData) (version count : ℕ) → version ≡ version_now d.log → SettlesAll d count e → CountsCommits d version count e
counts_of d e version count all so = record {
  counts = so.counts;
  all = all;
  shown = so.shown ∙ sym all;
  log = ap (λ (x : CoreData). x.log) so.keeps;
  adds = ap (λ (x : CoreData). x.history) so.keeps;
}

pub counted_told : (laws : ListLaws) (d e : CoreData) (version count : ℕ) → CountsCommits d version count e → told_of e ≡ told_of d ++ Mark ∷ []
counted_told laws d e version count so = laws.settle d e count so.log so.adds

pub counted_settles : (laws : ListLaws) (d e : CoreData) (version count : ℕ) → CountsCommits d version count e → e.shown ≡ d.shown → CameBy d → CameBy e
    → SettlesBeside (told_of d) version count (told_of e) (version_of e.shown)
unfolding SettlesBeside
counted_settles laws d e version count so shown before after =
    let shows : version_of e.shown ≡ version_of d.shown = ap version_of shown in
    let all = so.all in
    let is = so.shown in
    let more : settles_of e ≡ 1 + settles_of d = ap (λ h. settles_of (record e { history = h })) so.adds in
    let marks_before = laws.settles d in
    let marks_after = laws.settles e in (
      d.log,
      laws.log d before,
      so.counts,
      all,
      subst (λ (l : Log). TellsLog (told_of e) l) so.log (laws.log e after),
      omega (arith, more, marks_before, marks_after),
      omega (arith, shows, all, is),
    )

pub settles_between : (list list0 list1 list' : List LogEntry) (version count seen seen' : ℕ) → list0 ≡ list → list' ≡ list1 → seen' ≡ seen → SettlesBeside list0 version count list1 seen → SettlesBeside list version count list' seen'
settles_between list list0 list1 list' version count seen seen' first last sees so =
    subst (λ l. SettlesBeside l version count list' seen') first
    (subst (λ l. SettlesBeside list0 version count l seen') (sym last) (subst (λ n. SettlesBeside list0 version count list1 n) (sym sees) so))
