-- What is reported of the gap of a setting's loading.
use Rattle.std.specs.Prelude.{ℕ, ◌≡◌, List, ◌++◌, length}
use Rattle.ltm_units.specs.Texts.{texts_below}
use Rattle.ltm_curve.specs.Counts.{Counts}
use Rattle.ltm_network.specs.Network.{node_name}
use Rattle.ltm_scenario.specs.Data.{ScenarioData}
use Rattle.ltm_scenario.specs.Reads.{destination_node}
use Rattle.ltm_scenario.specs.IsScenario.{IsScenario}
use Rattle.ltm_loading.specs.Setting.{Setting}
use Rattle.ltm_loading.specs.Loading.{IsLoading}
use Rattle.ltm_setting.specs.Setting.{setting_of}
use Rattle.ltm_times.specs.Times.{time_spent}
use Rattle.ltm_gap.specs.Gaps.{least_to, late_to, spent_to, least, late}
use Rattle.ltm_report.specs.Gaps.{gap_line, gap_to_line}

-- what all who travel spend, an estimate of the least that they could, and who is late, under a version
unfoldable pub gap_report : ℕ → Setting → Counts → List ℕ
gap_report version s c = gap_line version (time_spent s c) (least s c) (late s c)

-- the same of those who travel to a destination
unfoldable pub gap_to_report : List ℕ → ℕ → Setting → Counts → List ℕ
gap_to_report name destination s c = gap_to_line name (spent_to s c destination) (least_to s c destination) (late_to s c destination)

-- ---- of a whole case
abbrev pub gap_to_of : ScenarioData → Counts → ℕ → List ℕ
gap_to_of s c destination = gap_to_report (node_name s.network (destination_node s destination)) destination (setting_of s) c

-- that of all under version 0, and that of each destination in order
unfoldable pub case_gap_report : ScenarioData → Counts → List ℕ
case_gap_report s c = gap_report 0 (setting_of s) c ++ texts_below (length s.destinations) (gap_to_of s c)

-- the text reports the gap of the loading of the scenario; where the data are those of a scenario there is no other loading
abbrev pub IsGapReport : ScenarioData → List ℕ → Type 0
IsGapReport s text = (c : Counts) × IsScenario s × IsLoading (setting_of s) c × (text ≡ case_gap_report s c)
