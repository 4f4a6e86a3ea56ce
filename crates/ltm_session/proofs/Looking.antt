-- A core that looks as before, and one after a batch, for the analysts' machine.
use mathlib.Core.List.{IsPrefix}
use Rattle.std.proofs.Common.{◌≡◌, ℕ, ◌+◌, List, [], ◌∷◌, ◌++◌, length, take, Result, Ok, Err, refl, ap, sym, subst, ◌∙◌}
use Rattle.std.specs.Prelude.{OnOk, MatchResult}
use Rattle.std.proofs.Math.Seq.{take-append_seam}
use Rattle.std.proofs.lemmas.List.{append-nil}
use Rattle.ltm_flows.specs.Shown.{version_of, SameLoading}
use Rattle.ltm_core.specs.Events.{Stay}
use Rattle.ltm_flows.specs.declared.loading.Loading.{Loading}
use Rattle.ltm_scenario.specs.declared.edit.Edit.{Edit}
use Rattle.ltm_scenario.specs.declared.edit.EditFault.{EditFault}
use Rattle.ltm_scenario.specs.Data.{ScenarioData}
use Rattle.ltm_scenario.specs.Edits.{edited_all}
use Rattle.ltm_report.specs.Answers.{accepted_line}
use Rattle.ltm_report.specs.EditFaults.{edit_fault_line}
use Rattle.ltm_core.specs.Answers.{IsNoneClaimed}
use Rattle.ltm_core.specs.State.{RepairState, now}
use Rattle.ltm_core.specs.Log.{Log, LogLaws, with_batch, settled_of, version_now, scenario_now}
use Rattle.ltm_core.specs.Cores.{CoreData, repair_of, IsNoneOut}
use Rattle.ltm_core.specs.CoreAnswers.{AcceptsBatch, LooksAs}
use Rattle.ltm_core.specs.declared.entry.LogEntry.{LogEntry}
use Rattle.ltm_core.specs.declared.entry.LogEntry.TheVariants.{Accepted}
use Rattle.ltm_core.specs.Told.{settles_of, told_of}
use Rattle.ltm_core.specs.Telling.{ListLaws}
use Rattle.ltm_session.specs.Analysts.{state_of}
use Rattle.ltm_session.specs.Answers.{EditsAll}
use Rattle.ltm_session.specs.Ready.{AwaitsLine}
use Rattle.ltm_session.proofs.Counted.{batch_settles_none, looks_settle_none}

same_loading : (l : Loading) → SameLoading l l
same_loading l = record {
  version = refl;
  step = refl;
  links = refl;
  nodes = refl;
  shape = record { same_groups = refl; same_slots = refl };
  totals = refl;
  free = λ i. refl;
  produced = λ n k x m. refl;
  generated = λ k m. refl;
}

pub looks_refl : (d : CoreData) → LooksAs d d
looks_refl d = record { log = refl; scenario = refl; commits = refl; stopped = refl; history = refl; shown = same_loading d.shown; desk = refl; repair = refl }

pub looks_state : (old new : CoreData) → LooksAs old new → state_of new ≡ state_of old
looks_state old new is =
    ap (λ (l : Log). record { log = l; shown = version_of new.shown; settles = settles_of new }) is.log
    ∙ ap (λ v. record { log = old.log; shown = v; settles = settles_of new }) is.shown.version
    ∙ ap (λ n. record { log = old.log; shown = version_of old.shown; settles = n }) (looks_settle_none old new is)

none_so : (old new : CoreData) → repair_of new ≡ repair_of old → IsNoneOut old → IsNoneOut new
unfolding IsNoneOut
none_so old new same none = subst (λ (s : RepairState). IsNoneClaimed (now s) s.desk) (sym same) none

pub looks_awaits : (old new : CoreData) → LooksAs old new → AwaitsLine old → AwaitsLine new
looks_awaits old new is awaits = record {
  none_out = none_so old new is.repair awaits.none_out;
  uncounted = is.commits ∙ awaits.uncounted;
  shown = is.shown.version ∙ awaits.shown ∙ sym (ap settled_of is.log);
}

pub batch_state : (old new : CoreData) (batch : List Edit) → AcceptsBatch old batch new → state_of new ≡ record (state_of old) { log = with_batch old.log batch }
batch_state old new batch is =
    ap (λ (l : Log). record { log = l; shown = version_of new.shown; settles = settles_of new }) (ap (λ (d : CoreData). d.log) is.keeps)
    ∙ ap (λ v. record { log = with_batch old.log batch; shown = v; settles = settles_of new }) is.shown.version
    ∙ ap (λ n. record { log = with_batch old.log batch; shown = version_of old.shown; settles = n }) (batch_settles_none old new batch is)

pub batch_awaits : (old new : CoreData) (batch : List Edit) → LogLaws → AcceptsBatch old batch new → AwaitsLine old → AwaitsLine new
batch_awaits old new batch laws is awaits = record {
  none_out = is.none_out;
  uncounted = ap (λ (d : CoreData). d.commits) is.keeps ∙ awaits.uncounted;
  shown = is.shown.version ∙ awaits.shown ∙ sym (laws.settled_batch old.log batch) ∙ sym (ap (λ (d : CoreData). settled_of d.log) is.keeps);
}

-- ---- the list that a core tells
pub list_begins : (d : CoreData) → IsPrefix (told_of d) (told_of d)
list_begins d = ([], append-nil (told_of d))

pub looks_told : (old new : CoreData) → ListLaws → LooksAs old new → told_of new ≡ told_of old
looks_told old new laws is = laws.stays old new Stay is.log is.history refl

pub looks_grow : (old new : CoreData) → ListLaws → LooksAs old new → IsPrefix (told_of old) (told_of new)
looks_grow old new laws is = subst (λ (l : List LogEntry). IsPrefix (told_of old) l) (sym (looks_told old new laws is)) (list_begins old)

pub batch_grows : (old new : CoreData) (batch : List Edit) → ListLaws → AcceptsBatch old batch new → IsPrefix (told_of old) (told_of new)
batch_grows old new batch laws is = (Accepted batch ∷ [], sym (laws.batch old new batch is))

-- ---- a batch that is refused
-- a text that was put behind another is cut off again
pub cut_back : (old mid new line : List ℕ) (n : ℕ) → n ≡ length old → mid ≡ old ++ line → new ≡ take n mid → new ≡ old
cut_back old mid new line n long is cut = cut ∙ (ap (take n) is ∙ (ap (λ (k : ℕ). take k (old ++ line)) long ∙ take-append_seam old line))

pub on_ok : {E : Type 0} (r : Result (Unit {0}) E) (P Q : Type 0) → (P → Q) → OnOk r P → OnOk r Q
on_ok (Ok x) P Q more holds = more holds
on_ok (Err e) P Q more holds = tt

-- what is told of it is its first fault, and the analysts' machine stays
pub refused_edits : (old new : CoreData) (batch : List Edit) (fault : EditFault) → LooksAs old new → edited_all (scenario_now old.log) batch ≡ Err fault →
    EditsAll (state_of old) batch (edit_fault_line fault) (state_of new)
refused_edits old new batch fault is refused =
    subst (λ (r : Result ScenarioData EditFault). MatchResult r (λ _. (edit_fault_line fault ≡ accepted_line (version_now old.log + 1)) × (state_of new ≡ record (state_of old) { log = with_batch old.log batch }))
    (λ f. (edit_fault_line fault ≡ edit_fault_line f) × (state_of new ≡ state_of old))) (sym refused) (refl, looks_state old new is)
