-- The list that a core tells: what it says of the log and of settles, and how it grows.
use Rattle.std.proofs.Common.{◌≡◌, ℕ, ◌+◌, List, [], ◌∷◌, ◌++◌, reverse, refl, ap, sym, subst, ◌∙◌, arith}
use Rattle.std.proofs.lemmas.List.{reverse-append, reverse-reverse}
use Rattle.ltm_scenario.specs.declared.edit.Edit.{Edit}
use Rattle.ltm_scenario.specs.Data.{ScenarioData}
use Rattle.ltm_repair.specs.Answers.{ClaimAnswer, Got, NotYet, Rest}
use Rattle.ltm_repair.specs.Making.{claim_event}
use Rattle.ltm_repair.specs.Events.{CoreEvent, Look, Claim, GiveBack, Commit, Accept, Publish, Settle, Stay}
use Rattle.ltm_repair.specs.Runs.{in_all}
use Rattle.ltm_core.specs.declared.entry.LogEntry.{LogEntry}
use Rattle.ltm_core.specs.declared.entry.LogEntry.TheVariants.{Opening, Accepted, Mark}
use Rattle.ltm_core.specs.Log.{Log, batches_of, with_batch, with_mark}
use Rattle.ltm_core.specs.Cores.{CoreData}
use Rattle.ltm_core.specs.CoreAnswers.{Adds, AcceptsBatch, with_event}
use Rattle.ltm_core.specs.Histories.{CameBy}
use Rattle.ltm_core.specs.Told.{settle_in, settles_of, done_in, done_to, told_of, log_by, TellsLog, marks_in}
use Rattle.ltm_core.specs.Telling.{IsNoEditors, ListLaws}
use Rattle.ltm_core.proofs.Logs.{opening_batch, opening_marked, batches_more, batches_marked}

-- ---- what an event does to the log
abbrev pub LogAfter : CoreEvent → Log → Log → Type 0
LogAfter Accept old new = (batch : List Edit) × (new ≡ with_batch old batch)
LogAfter (Settle count) old new = new ≡ with_mark old
LogAfter other old new = new ≡ old

pub claim_leaves_log : (answer : ClaimAnswer) (log : Log) → LogAfter (claim_event answer) log log
claim_leaves_log (Got u t ticket row) log = refl
claim_leaves_log NotYet log = refl
claim_leaves_log Rest log = refl

pub opening_after : (x : CoreEvent) (old new : Log) → LogAfter x old new → new.opening ≡ old.opening
opening_after Accept old new (batch, is) = ap (λ (l : Log). l.opening) is ∙ opening_batch old batch
opening_after (Settle n) old new is = ap (λ (l : Log). l.opening) is ∙ opening_marked old
opening_after Look old new is = ap (λ (l : Log). l.opening) is
opening_after (Claim u t) old new is = ap (λ (l : Log). l.opening) is
opening_after (GiveBack u t) old new is = ap (λ (l : Log). l.opening) is
opening_after (Commit u t) old new is = ap (λ (l : Log). l.opening) is
opening_after Publish old new is = ap (λ (l : Log). l.opening) is
opening_after Stay old new is = ap (λ (l : Log). l.opening) is

-- ---- what was done, with one more event
done_at : (h k : List CoreEvent) (a b : Log) → h ≡ k → a ≡ b → done_in h (reverse (batches_of a)) ≡ done_in k (reverse (batches_of b))
done_at h k a b same at = (λ i. done_in (same i) (reverse (batches_of (at i))))

batch_done : (h : List CoreEvent) (log : Log) (batch : List Edit) → done_in (Accept ∷ h) (reverse (batches_of (with_batch log batch))) ≡ Accepted batch ∷ done_in h (reverse (batches_of log))
batch_done h log batch =
    let last : reverse (batches_of (with_batch log batch)) ≡ batch ∷ reverse (batches_of log) =
    ap reverse (batches_more log batch) ∙ reverse-append (batches_of log) (batch ∷ []) in
    ap (λ (l : List (List Edit)). done_in (Accept ∷ h) l) last

mark_done : (h : List CoreEvent) (log : Log) (n : ℕ) → done_in (Settle n ∷ h) (reverse (batches_of (with_mark log))) ≡ Mark ∷ done_in h (reverse (batches_of log))
mark_done h log n = ap (λ (l : List (List Edit)). Mark ∷ done_in h (reverse l)) (batches_marked log)

-- the log is that of what was done
abbrev IsLogBy : Log → List CoreEvent → Type 0
IsLogBy log h = log ≡ log_by log.opening (done_in h (reverse (batches_of log)))

more_batch : (h : List CoreEvent) (old : Log) (batch : List Edit) → IsLogBy old h → IsLogBy (with_batch old batch) (Accept ∷ h)
more_batch h old batch is =
    ap (λ (l : Log). with_batch l batch) is
    ∙ (λ i. log_by (sym (opening_batch old batch) i) (sym (batch_done h old batch) i))

more_mark : (h : List CoreEvent) (old : Log) (n : ℕ) → IsLogBy old h → IsLogBy (with_mark old) (Settle n ∷ h)
more_mark h old n is =
    ap with_mark is
    ∙ (λ i. log_by (sym (opening_marked old) i) (sym (mark_done h old n) i))

more_log : (x : CoreEvent) (h : List CoreEvent) (old new : Log) → LogAfter x old new → IsLogBy old h → IsLogBy new (x ∷ h)
more_log Accept h old new (batch, is) by = subst (λ (l : Log). IsLogBy l (Accept ∷ h)) (sym is) (more_batch h old batch by)
more_log (Settle n) h old new is by = subst (λ (l : Log). IsLogBy l (Settle n ∷ h)) (sym is) (more_mark h old n by)
more_log Look h old new is by = subst (λ (l : Log). IsLogBy l h) (sym is) by
more_log (Claim u t) h old new is by = subst (λ (l : Log). IsLogBy l h) (sym is) by
more_log (GiveBack u t) h old new is by = subst (λ (l : Log). IsLogBy l h) (sym is) by
more_log (Commit u t) h old new is by = subst (λ (l : Log). IsLogBy l h) (sym is) by
more_log Publish h old new is by = subst (λ (l : Log). IsLogBy l h) (sym is) by
more_log Stay h old new is by = subst (λ (l : Log). IsLogBy l h) (sym is) by

pub log_after : (d e : CoreData) (x : CoreEvent) → LogAfter x d.log e.log → e.history ≡ x ∷ d.history → d.log ≡ log_by d.log.opening (done_to d) → e.log ≡ log_by e.log.opening (done_to e)
unfolding done_to
log_after d e x after more is = subst (λ (h : List CoreEvent). IsLogBy e.log h) (sym more) (more_log x d.history d.log e.log after is)

pub log_stays : (d e : CoreData) → e.log ≡ d.log → e.history ≡ d.history → d.log ≡ log_by d.log.opening (done_to d) → e.log ≡ log_by e.log.opening (done_to e)
unfolding done_to
log_stays d e same told is = subst (λ (h : List CoreEvent). IsLogBy e.log h) (sym told) (subst (λ (l : Log). IsLogBy l d.history) (sym same) is)

pub log_begun : (d : CoreData) → d.history ≡ [] → d.log ≡ record { opening = d.log.opening; batches = [] } → d.log ≡ log_by d.log.opening (done_to d)
unfolding done_to
log_begun d none is = subst (λ (h : List CoreEvent). IsLogBy d.log h) (sym none) is

-- ---- the list grows by a batch and by a settle alone
told_at : (a b : CoreData) (entry : LogEntry) → b.log.opening ≡ a.log.opening → done_to b ≡ entry ∷ done_to a → told_of b ≡ told_of a ++ entry ∷ []
unfolding told_of
told_at a b entry same more =
    (λ i. Opening (same i) ∷ reverse (more i)) ∙ ap (λ (l : List LogEntry). Opening a.log.opening ∷ l) (reverse-append (entry ∷ []) (done_to a))

batch_told : (d e : CoreData) (batch : List Edit) → AcceptsBatch d batch e → told_of e ≡ told_of d ++ Accepted batch ∷ []
unfolding done_to
batch_told d e batch is =
    let log : e.log ≡ with_batch d.log batch = ap (λ (x : CoreData). x.log) is.keeps in
    let history : e.history ≡ Accept ∷ d.history = ap (λ (x : CoreData). x.history) is.keeps in
    told_at d e (Accepted batch) (ap (λ (l : Log). l.opening) log ∙ opening_batch d.log batch)
    (done_at e.history (Accept ∷ d.history) e.log (with_batch d.log batch) history log ∙ batch_done d.history d.log batch)

settle_told : (d e : CoreData) (n : ℕ) → e.log ≡ with_mark d.log → Adds d (Settle n) e → told_of e ≡ told_of d ++ Mark ∷ []
unfolding done_to
settle_told d e n log history =
    told_at d e Mark (ap (λ (l : Log). l.opening) log ∙ opening_marked d.log)
    (done_at e.history (Settle n ∷ d.history) e.log (with_mark d.log) history log ∙ mark_done d.history d.log n)

none_done : (x : CoreEvent) (h : List CoreEvent) (batches : List (List Edit)) → IsNoEditors x → done_in (with_event x h) batches ≡ done_in h batches
none_done Look h batches none = refl
none_done (Claim u t) h batches none = refl
none_done (GiveBack u t) h batches none = refl
none_done (Commit u t) h batches none = refl
none_done Accept h batches none = absurd (omega (none, arith))
none_done Publish h batches none = refl
none_done (Settle n) h batches none = absurd (omega (none, arith))
none_done Stay h batches none = refl

none_told : (d e : CoreData) (x : CoreEvent) → e.log ≡ d.log → Adds d x e → IsNoEditors x → told_of e ≡ told_of d
unfolding told_of done_to
none_told d e x log history none =
    let same : done_in e.history (reverse (batches_of e.log)) ≡ done_in d.history (reverse (batches_of d.log)) =
    done_at e.history (with_event x d.history) e.log d.log history log ∙ none_done x d.history (reverse (batches_of d.log)) none in
    (λ i. Opening (log i).opening ∷ reverse (same i))

-- ---- what the list says
log_told : (d : CoreData) → CameBy d → TellsLog (told_of d) d.log
unfolding told_of
log_told d came = record { done = done_to d; list_is = refl; log_is = came.log }

opening_or : ScenarioData → List LogEntry → ScenarioData
opening_or s [] = s
opening_or s (Opening o ∷ entries) = o
opening_or s (Accepted b ∷ entries) = s
opening_or s (Mark ∷ entries) = s

rest_in : List LogEntry → List LogEntry
rest_in [] = []
rest_in (entry ∷ entries) = entries

one_told : (list : List LogEntry) (a b : Log) → TellsLog list a → TellsLog list b → a ≡ b
unfolding opening_or rest_in
one_told list a b told told_too =
    let same : Opening a.opening ∷ reverse told.done ≡ Opening b.opening ∷ reverse told_too.done = sym told.list_is ∙ told_too.list_is in
    let opening : a.opening ≡ b.opening = ap (opening_or a.opening) same in
    let done : told.done ≡ told_too.done = sym (reverse-reverse told.done) ∙ ap (λ (l : List LogEntry). reverse (rest_in l)) same ∙ reverse-reverse told_too.done in
    told.log_is ∙ (λ i. log_by (opening i) (done i)) ∙ sym told_too.log_is

marks_both : (a b : List LogEntry) → marks_in (a ++ b) ≡ marks_in a + marks_in b
marks_both [] b = omega arith
marks_both (Mark ∷ a) b = let rest : marks_in (a ++ b) ≡ marks_in a + marks_in b = marks_both a b in omega (rest, arith)
marks_both (Accepted batch ∷ a) b = marks_both a b
marks_both (Opening s ∷ a) b = marks_both a b

marks_one : (entry : LogEntry) (entries : List LogEntry) → marks_in (entry ∷ entries) ≡ marks_in entries + marks_in (entry ∷ [])
marks_one Mark entries = omega arith
marks_one (Accepted batch) entries = omega arith
marks_one (Opening s) entries = omega arith

marks_turned : (entries : List LogEntry) → marks_in (reverse entries) ≡ marks_in entries
marks_turned [] = refl
marks_turned (entry ∷ entries) =
    let turned : marks_in (reverse (entry ∷ entries)) ≡ marks_in (reverse entries ++ entry ∷ []) = ap marks_in (reverse-append (entry ∷ []) entries) in
    let cut = marks_both (reverse entries) (entry ∷ []) in
    let rest : marks_in (reverse entries) ≡ marks_in entries = marks_turned entries in
    let one = marks_one entry entries in
    omega (turned, cut, rest, one, arith)

marks_done : (h : List CoreEvent) (batches : List (List Edit)) → marks_in (done_in h batches) ≡ in_all settle_in h
marks_done [] batches = refl
marks_done (Accept ∷ h) [] = marks_done h [] ∙ omega arith
marks_done (Accept ∷ h) (batch ∷ batches) = marks_done h batches ∙ omega arith
marks_done (Settle n ∷ h) batches = ap (λ (k : ℕ). 1 + k) (marks_done h batches)
marks_done (Look ∷ h) batches = marks_done h batches ∙ omega arith
marks_done (Claim u t ∷ h) batches = marks_done h batches ∙ omega arith
marks_done (GiveBack u t ∷ h) batches = marks_done h batches ∙ omega arith
marks_done (Commit u t ∷ h) batches = marks_done h batches ∙ omega arith
marks_done (Publish ∷ h) batches = marks_done h batches ∙ omega arith
marks_done (Stay ∷ h) batches = marks_done h batches ∙ omega arith

settles_told : (d : CoreData) → marks_in (told_of d) ≡ settles_of d
unfolding told_of done_to
settles_told d = marks_turned (done_in d.history (reverse (batches_of d.log))) ∙ marks_done d.history (reverse (batches_of d.log))

pub lists_tell_all : ListLaws
lists_tell_all = record {
  log = log_told;
  one = one_told;
  settles = settles_told;
  batch = batch_told;
  settle = settle_told;
  stays = none_told;
}
