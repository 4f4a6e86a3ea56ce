-- What is told of an office whose editors are done.
use Rattle.std.proofs.Common.{◌≡◌, ℕ, List, ◌++◌, length, refl, sym, ap, subst, ◌∙◌, Ok, Err}
use Rattle.std.specs.Prelude.{Result, OnOk, IfOk}
use Rattle.std.proofs.lemmas.List.{length-map}
use Rattle.ltm_flows.specs.Counts.{Counts}
use Rattle.ltm_scenario.specs.declared.edit.Edit.{Edit}
use Rattle.ltm_scenario.specs.Data.{ScenarioData}
use Rattle.ltm_scenario.specs.IsScenario.{IsScenario}
use Rattle.ltm_flows.specs.Setting.{Setting}
use Rattle.ltm_core.specs.Loading.{IsLoading}
use Rattle.ltm_core.specs.Setting.{setting_of}
use Rattle.ltm_flows.specs.Shown.{Shows, ShowsCounts, version_of}
use Rattle.ltm_report.specs.Reports.{totals_report}
use Rattle.ltm_core.specs.Log.{Log, LogLaws, batches_of, version_now, scenario_at, scenario_now, after_batches}
use Rattle.ltm_core.specs.Cores.{CoreData, IsShownOf}
use Rattle.ltm_editors.specs.declared.call.Call.{Call}
use Rattle.ltm_editors.specs.History.{accepted_in, IsLegalHistory}
use Rattle.ltm_editors.specs.Offices.{IsOffice}
use Rattle.ltm_session_editors.specs.Lines.{call_lines}
use Rattle.ltm_session_editors.specs.Editing.{TellsTotals, TellsHistory, IsEditingText}
use Rattle.ltm_session_editors.specs.Histories.{batches_by, script_by}
use Rattle.ltm_session_editors.proofs.Calls.{on_ok}

-- what holds of a result follows from what else holds of it
pub if_ok : {A E : Type 0} (r : Result A E) (P Q : A → Type 0) → ((a : A) → P a → Q a) → IfOk r P → IfOk r Q
if_ok (Ok a) P Q so p = so a p
if_ok (Err e) P Q so p = tt

-- ---- a core that shows the loading of its scenario
module _ (laws : LogLaws) (log : Log) (d : CoreData) (same : d.log ≡ log) (all : version_of d.shown ≡ version_now d.log) (shown : IsShownOf d.log d.shown) where
  last : scenario_at d.log (version_of d.shown) ≡ scenario_now log
  last = ap (λ (k : ℕ). scenario_at d.log k) all ∙ (laws.last d.log ∙ ap (λ (l : Log). scenario_now l) same)

  pub shows_last : Shows (setting_of (scenario_now log)) (version_now log) d.shown
  shows_last =
      let number : version_of d.shown ≡ version_now log = all ∙ ap (λ (l : Log). version_now l) same in
      subst (λ (k : ℕ). Shows (setting_of (scenario_now log)) k d.shown) number (subst (λ (s : ScenarioData). Shows (setting_of s) (version_of d.shown) d.shown) last shown.shows)

  pub tells_totals : {A E : Type 0} (r : Result A E) (old new : List ℕ)
      → OnOk r ((s : Setting) (version : ℕ) (c : Counts) → ShowsCounts s version c d.shown → new ≡ old ++ totals_report version s c) → OnOk r (TellsTotals log old new)
  tells_totals r old new wrote =
      on_ok r ((s : Setting) (version : ℕ) (c : Counts) → ShowsCounts s version c d.shown → new ≡ old ++ totals_report version s c) (TellsTotals log old new)
      (λ is. record {
        counts = shows_last.0;
        scenario = subst (λ (s : ScenarioData). IsScenario s) last shown.scenario;
        loads = shows_last.1.loading;
        lines = is (setting_of (scenario_now log)) (version_now log) shows_last.0 shows_last.1;
      })
      wrote

-- ---- the history beside it
scenario_is : (log : Log) → scenario_now log ≡ after_batches log.opening (batches_of log)
unfolding scenario_now
scenario_is log = refl

version_is : (log : Log) → version_now log ≡ length (batches_of log)
unfolding version_now batches_of
version_is log = sym (length-map log.batches (λ b. b.0))

pub tells_history : (core : CoreData) (log : Log) (history calls : List Call) (lines text : List ℕ) → log ≡ core.log → IsOffice core history → lines ≡ call_lines 1 calls → calls ≡ history → TellsTotals log lines text
    → TellsHistory core.log.opening history text
tells_history core log history calls lines text same office wrote are totals =
    let t : TellsTotals core.log lines text = subst (λ (l : Log). TellsTotals l lines text) same totals in
    let left : scenario_now core.log ≡ after_batches core.log.opening (accepted_in history) = scenario_is core.log ∙ ap (λ bs. after_batches core.log.opening bs) office.accepted in
    let count : version_now core.log ≡ length (accepted_in history) = version_is core.log ∙ ap (λ bs. length bs) office.accepted in
    record {
      counts = t.counts;
      scenario = subst (λ (s : ScenarioData). IsScenario s) left t.scenario;
      loads = subst (λ (s : ScenarioData). IsLoading (setting_of s) t.counts) left t.loads;
      lines = t.lines ∙ (λ i. (wrote ∙ ap (λ (cs : List Call). call_lines 1 cs) are) i ++ totals_report (count i) (setting_of (left i)) t.counts);
    }

-- ---- all of it
pub editing_told : (opening : ScenarioData) (scripts : List (List (List Edit))) (core : CoreData) (history : List Call) (text : List ℕ) → core.log.opening ≡ opening → IsOffice core history → ((n : ℕ) → batches_by n history ≡ script_by scripts n)
    → TellsHistory core.log.opening history text → IsEditingText opening scripts text
editing_told opening scripts core history text opens office calls told = (
  history,
  record { legal = subst (λ (s : ScenarioData). IsLegalHistory s history) opens office.legal; calls = calls },
  subst (λ (s : ScenarioData). TellsHistory s history text) opens told,
)
