-- What a trial reports: the case that is made of two numbers, its loading, and what its batch makes of that.
use Rattle.std.specs.Prelude.{ℕ, ◌≡◌, ◌*◌, List, ◌++◌, Ok}
use Rattle.ltm_flows.specs.Counts.{Counts}
use Rattle.ltm_scenario.specs.declared.edit.Edit.{Edit}
use Rattle.ltm_scenario.specs.Data.{ScenarioData}
use Rattle.ltm_scenario.specs.IsScenario.{IsScenario}
use Rattle.ltm_scenario.specs.Edits.{edited_all}
use Rattle.ltm_loading.specs.Setting.{Setting}
use Rattle.ltm_loading.specs.Loading.{IsLoading}
use Rattle.ltm_loading.specs.Differing.{differing}
use Rattle.ltm_setting.specs.Setting.{setting_of}
use Rattle.ltm_times.specs.Times.{time_spent}
use Rattle.ltm_report.specs.Reports.{totals_report}
use Rattle.ltm_report.specs.Made.{size_line, work_line}
use Rattle.ltm_make.specs.Grid.{IsWidth}
use Rattle.ltm_make.specs.MadeCase.{made_from, batch_of}

-- how many nodes, links, and pairs of node and slot there are
unfoldable pub size_of : Setting → List ℕ
size_of s = size_line s.nodes s.links (s.nodes * s.slots)

-- how many pairs read other numbers after the batch than before, twice: so many are computed anew, by so many solves; and
-- the time that all vehicles spend after it
unfoldable pub work_of : Setting → Setting → Counts → Counts → List ℕ
work_of s e before after = work_line (differing s e before after) (differing s e before after) (time_spent e after)

unfoldable pub trial_lines : Setting → Setting → Counts → Counts → List ℕ
trial_lines s e before after = size_of s ++ totals_report 0 s before ++ totals_report 1 e after ++ work_of s e before after

-- the text reports the loading of a scenario, and that of the one that a batch makes of it
pub record IsTrialOf (s e : ScenarioData) (text : List ℕ) : Type 0 where
  pub scenario : IsScenario s
  pub edited : IsScenario e
  pub network : e.network ≡ s.network
  pub before : Counts
  pub after : Counts
  pub loads : IsLoading (setting_of s) before
  pub reloads : IsLoading (setting_of e) after
  pub lines : text ≡ trial_lines (setting_of s) (setting_of e) before after

-- the text reports a scenario and what a batch makes of it
abbrev pub TellsTrial : ScenarioData → List Edit → List ℕ → Type 0
TellsTrial s batch text = (e : ScenarioData) × (edited_all s batch ≡ Ok e) × IsTrialOf s e text

-- the same of the case that is made of two numbers, with its own batch
pub record IsTrial (start nodes : ℕ) (text : List ℕ) : Type 0 where
  pub width : ℕ
  pub is_width : IsWidth nodes width
  pub tells : TellsTrial (made_from start nodes width).scenario (batch_of nodes (made_from start nodes width)) text
