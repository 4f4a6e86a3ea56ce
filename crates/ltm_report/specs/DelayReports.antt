-- What is reported of the queues and delays of a setting's loading.
use Rattle.std.specs.Prelude.{ℕ, ◌≡◌, ◌==◌, List, [], ◌++◌, length, if◌then◌else◌}
use Rattle.ltm_units.specs.Texts.{texts_below}
use Rattle.ltm_curve.specs.Counts.{Counts}
use Rattle.ltm_network.specs.Network.{link_name, node_name}
use Rattle.ltm_scenario.specs.Data.{ScenarioData}
use Rattle.ltm_scenario.specs.IsScenario.{IsScenario}
use Rattle.ltm_loading.specs.Setting.{Setting}
use Rattle.ltm_loading.specs.Loading.{IsLoading}
use Rattle.ltm_loading.specs.Totals.{entered_link, left_link}
use Rattle.ltm_setting.specs.Setting.{setting_of}
use Rattle.ltm_flows.specs.Origins.{produced_in_all, departed_from}
use Rattle.ltm_times.specs.Times.{time_spent}
use Rattle.ltm_times.specs.Queues.{queue, waiting_at}
use Rattle.ltm_times.specs.Delays.{spent_on, queued_on, fullest, waited_at, longest, queued, waited}
use Rattle.ltm_report.specs.Delays.{delay_line, link_delay_line, queue_line, node_delay_line, origin_line}

-- what all spend, queue and wait, under a version
unfoldable pub delay_report : ℕ → Setting → Counts → List ℕ
delay_report version s c = delay_line version (time_spent s c) (queued s c) (waited s c)

-- the queue of a link at a boundary, under a version
unfoldable pub queue_report : ℕ → List ℕ → ℕ → ℕ → Setting → Counts → List ℕ
queue_report version name link boundary s c =
    queue_line version name boundary (entered_link s c link boundary) (left_link s c link boundary) (queue s c link boundary)

-- what is spent and queued on a link, and its longest queue
unfoldable pub link_delay_report : List ℕ → ℕ → Setting → Counts → List ℕ
link_delay_report name link s c =
    link_delay_line name (spent_on s c link) (queued_on s c link) (queue s c link (fullest s c link)) (fullest s c link)

-- the origin of a node at a boundary, under a version
unfoldable pub origin_report : ℕ → List ℕ → ℕ → ℕ → Setting → Counts → List ℕ
origin_report version name node boundary s c =
    origin_line version name boundary (produced_in_all s node boundary) (departed_from s c node boundary) (waiting_at s c node boundary)

-- what is waited at the origin of a node, and when most wait, where it produces anything
unfoldable pub node_delay_report : List ℕ → ℕ → Setting → Counts → List ℕ
node_delay_report name node s c =
    if produced_in_all s node s.slots == 0 then []
    else node_delay_line name (waited_at s c node) (waiting_at s c node (longest s c node)) (longest s c node)

-- ---- of a whole case
-- the lines of a link and of a node by their numbers
abbrev pub link_delay_of : ScenarioData → Counts → ℕ → List ℕ
link_delay_of s c link = link_delay_report (link_name s.network link) link (setting_of s) c

abbrev pub node_delay_of : ScenarioData → Counts → ℕ → List ℕ
node_delay_of s c node = node_delay_report (node_name s.network node) node (setting_of s) c

-- what all spend under version 0, each link in order of number, and each node whose origin produces anything
unfoldable pub case_delay_report : ScenarioData → Counts → List ℕ
case_delay_report s c =
    delay_report 0 (setting_of s) c
    ++ texts_below (length s.network.links) (link_delay_of s c)
    ++ texts_below (length s.network.nodes) (node_delay_of s c)

-- the text reports the delays of the loading of the scenario; where the data are those of a scenario there is no other
-- loading
abbrev pub IsDelayReport : ScenarioData → List ℕ → Type 0
IsDelayReport s text = (c : Counts) × IsScenario s × IsLoading (setting_of s) c × (text ≡ case_delay_report s c)
