-- What is told of several editors.
use Rattle.std.specs.Prelude.{ℕ, ◌≡◌, List, ◌++◌, length}
use Rattle.ltm_flows.specs.Counts.{Counts}
use Rattle.ltm_scenario.specs.declared.edit.Edit.{Edit}
use Rattle.ltm_scenario.specs.Data.{ScenarioData}
use Rattle.ltm_scenario.specs.IsScenario.{IsScenario}
use Rattle.ltm_core.specs.Loading.{IsLoading}
use Rattle.ltm_core.specs.Setting.{setting_of}
use Rattle.ltm_report.specs.Reports.{totals_report}
use Rattle.ltm_core.specs.Log.{Log, version_now, scenario_now, after_batches}
use Rattle.ltm_editors.specs.declared.call.Call.{Call}
use Rattle.ltm_editors.specs.History.{accepted_in}
use Rattle.ltm_session_editors.specs.Histories.{IsHistoryOf}
use Rattle.ltm_session_editors.specs.Lines.{call_lines}

-- the totals of the loading of the scenario that a log leaves were appended
pub record TellsTotals (log : Log) (old new : List ℕ) : Type 0 where
  pub counts : Counts
  pub scenario : IsScenario (scenario_now log)
  pub loads : IsLoading (setting_of (scenario_now log)) counts
  pub lines : new ≡ old ++ totals_report (version_now log) (setting_of (scenario_now log)) counts

-- the scenario that a history leaves
abbrev pub left_by : ScenarioData → List Call → ScenarioData
left_by opening history = after_batches opening (accepted_in history)

-- the text of a history: its calls, and the totals of the loading of the scenario that it leaves; there is no other loading
pub record TellsHistory (opening : ScenarioData) (history : List Call) (text : List ℕ) : Type 0 where
  pub counts : Counts
  pub scenario : IsScenario (left_by opening history)
  pub loads : IsLoading (setting_of (left_by opening history)) counts
  pub lines : text ≡ call_lines 1 history ++ totals_report (length (accepted_in history)) (setting_of (left_by opening history)) counts

-- a text of editors who have these scripts
abbrev pub IsEditingText : ScenarioData → List (List (List Edit)) → List ℕ → Type 0
IsEditingText opening scripts text = (history : List Call) × IsHistoryOf opening scripts history × TellsHistory opening history text
