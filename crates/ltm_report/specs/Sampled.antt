-- What is reported of a setting's loading at boundaries that lie so many slots apart, and at the last.
use Rattle.std.specs.Prelude.{ℕ, ◌≡◌, ◌==◌, ◌+◌, ◌-◌, ◌*◌, ◌/◌, min, List, [], ◌++◌, length, codes, if◌then◌else◌}
use Rattle.ltm_units.specs.Texts.{texts_below}
use Rattle.ltm_curve.specs.Counts.{Counts}
use Rattle.ltm_network.specs.Network.{link_name, node_name}
use Rattle.ltm_scenario.specs.Data.{ScenarioData}
use Rattle.ltm_scenario.specs.IsScenario.{IsScenario}
use Rattle.ltm_loading.specs.Setting.{Setting}
use Rattle.ltm_loading.specs.Loading.{IsLoading}
use Rattle.ltm_loading.specs.Totals.{entered_link, left_link}
use Rattle.ltm_setting.specs.Setting.{setting_of}
use Rattle.ltm_flows.specs.Origins.{produced_in_all, departed_from}
use Rattle.ltm_report.specs.Pieces.{newline}
use Rattle.ltm_report.specs.Links.{name_piece}
use Rattle.ltm_report.specs.Rows.{row}

-- how many boundaries are told: the multiples of so many slots, and the last
abbrev pub told_boundaries : ℕ → ℕ → ℕ
told_boundaries every slots = (slots - 1) / every + 1

-- the one at a place among them, from 0 on
abbrev pub told_at : ℕ → ℕ → ℕ → ℕ
told_at every slots place = min ((place + 1) * every) slots

-- ---- of a link, and of the origin of a node
-- what has entered and left a link by each, as `link a entered 500 1000 left 0 400`
unfoldable pub passed_line : List ℕ → ℕ → (ℕ → ℕ) → (ℕ → ℕ) → List ℕ
passed_line name many entered gone = name_piece name ++ row (codes " entered") many entered ++ row (codes " left") many gone ++ newline

-- what has left an origin by each, as `origin n1 departed 300 800`
unfoldable pub departed_line : List ℕ → ℕ → (ℕ → ℕ) → List ℕ
departed_line name many departed = codes "origin " ++ name ++ row (codes " departed") many departed ++ newline

unfoldable pub passed_report : ℕ → List ℕ → ℕ → Setting → Counts → List ℕ
passed_report every name link s c =
    passed_line name (told_boundaries every s.slots)
    (λ place. entered_link s c link (told_at every s.slots place))
    (λ place. left_link s c link (told_at every s.slots place))

-- an origin that produces nothing has no line
unfoldable pub departed_report : ℕ → List ℕ → ℕ → Setting → Counts → List ℕ
departed_report every name node s c =
    if produced_in_all s node s.slots == 0 then []
    else departed_line name (told_boundaries every s.slots) (λ place. departed_from s c node (told_at every s.slots place))

-- ---- of a whole case
-- the lines of a link and of a node by their numbers
abbrev pub passed_of : ℕ → ScenarioData → Counts → ℕ → List ℕ
passed_of every s c link = passed_report every (link_name s.network link) link (setting_of s) c

abbrev pub departed_of : ℕ → ScenarioData → Counts → ℕ → List ℕ
departed_of every s c node = departed_report every (node_name s.network node) node (setting_of s) c

-- each link in order of number, and each node whose origin produces anything
unfoldable pub sampled_report : ℕ → ScenarioData → Counts → List ℕ
sampled_report every s c =
    texts_below (length s.network.links) (passed_of every s c) ++ texts_below (length s.network.nodes) (departed_of every s c)

-- the text reports the totals of the loading of the scenario; where the data are those of a scenario there is no other loading
abbrev pub IsSampledReport : ℕ → ScenarioData → List ℕ → Type 0
IsSampledReport every s text = (c : Counts) × IsScenario s × IsLoading (setting_of s) c × (text ≡ sampled_report every s c)
