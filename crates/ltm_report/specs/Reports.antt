-- What is reported of a setting's loading at its last boundary.
use Rattle.std.specs.Prelude.{ℕ, ◌≡◌, List, ◌++◌, length}
use Rattle.ltm_units.specs.Texts.{texts_below}
use Rattle.ltm_curve.specs.Counts.{Counts}
use Rattle.ltm_network.specs.Network.{link_name}
use Rattle.ltm_scenario.specs.Data.{ScenarioData}
use Rattle.ltm_scenario.specs.IsScenario.{IsScenario}
use Rattle.ltm_loading.specs.Setting.{Setting}
use Rattle.ltm_loading.specs.Loading.{IsLoading}
use Rattle.ltm_loading.specs.Totals.{generated, arrived, on_links, waiting, entered_link, left_link}
use Rattle.ltm_setting.specs.Setting.{setting_of}
use Rattle.ltm_flows.specs.declared.loading.Loading.{Loading}
use Rattle.ltm_flows.specs.Shown.{version_of, last_of, generated_of}
use Rattle.ltm_flows.specs.Counted.{arrived_of, on_links_of, waiting_of}
use Rattle.ltm_report.specs.Totals.{totals_line}
use Rattle.ltm_report.specs.Links.{load_link_line, link_line}

-- the totals, under a version
unfoldable pub totals_report : ℕ → Setting → Counts → List ℕ
totals_report version s c = totals_line version (generated s s.slots) (arrived s c s.slots) (on_links s c s.slots) (waiting s c s.slots)

-- the same of a loading in its own words
abbrev pub counted_totals : Loading → List ℕ
counted_totals l = totals_line (version_of l) (generated_of l (last_of l)) (arrived_of l (last_of l)) (on_links_of l) (waiting_of l)

-- what has entered and left a link
unfoldable pub load_link_report : List ℕ → ℕ → Setting → Counts → List ℕ
load_link_report name link s c = load_link_line name (entered_link s c link s.slots) (left_link s c link s.slots)

-- the same, under a version
unfoldable pub link_report : ℕ → List ℕ → ℕ → Setting → Counts → List ℕ
link_report version name link s c = link_line version name (entered_link s c link s.slots) (left_link s c link s.slots)

-- the line of a link by its number
abbrev pub link_report_of : ScenarioData → Counts → ℕ → List ℕ
link_report_of s c link = load_link_report (link_name s.network link) link (setting_of s) c

-- the totals under version 0, and each link in order of number
unfoldable pub load_report : ScenarioData → Counts → List ℕ
load_report s c = totals_report 0 (setting_of s) c ++ texts_below (length s.network.links) (link_report_of s c)

-- the text reports the loading of the scenario; where the data are those of a scenario there is no other loading
abbrev pub IsReport : ScenarioData → List ℕ → Type 0
IsReport s text = (c : Counts) × IsScenario s × IsLoading (setting_of s) c × (text ≡ load_report s c)
