-- What is reported of all links, of all nodes or of all boundaries of a setting's loading.
use Rattle.std.specs.Prelude.{ℕ, ◌+◌, List}
use Rattle.ltm_curve.specs.Counts.{Counts}
use Rattle.ltm_loading.specs.Setting.{Setting}
use Rattle.ltm_loading.specs.Totals.{entered_link, left_link}
use Rattle.ltm_flows.specs.Origins.{produced_in_all, departed_from}
use Rattle.ltm_times.specs.Times.{time_spent}
use Rattle.ltm_times.specs.Queues.{queue, waiting_at}
use Rattle.ltm_times.specs.Delays.{spent_on, queued_on, fullest, waited_at, longest, queued, waited}
use Rattle.ltm_report.specs.Rows.{state_line, curve_line, departures_line, link_numbers, node_numbers, delays_line}

-- what has entered and left each link by a boundary, its queue then, and who waits at each node
unfoldable pub state_report : ℕ → ℕ → Setting → Counts → List ℕ
state_report version boundary s c = state_line version boundary s.links s.nodes (λ link. entered_link s c link boundary)
    (λ link. left_link s c link boundary) (λ link. queue s c link boundary) (λ node. waiting_at s c node boundary)

-- what has entered and left a link by each boundary
unfoldable pub curve_report : ℕ → List ℕ → ℕ → Setting → Counts → List ℕ
curve_report version name link s c = curve_line version name (s.slots + 1) (entered_link s c link) (left_link s c link)

-- what the origin of a node has produced and what has left it by each boundary
unfoldable pub departures_report : ℕ → List ℕ → ℕ → Setting → Counts → List ℕ
departures_report version name node s c = departures_line version name (s.slots + 1) (produced_in_all s node) (departed_from s c node)

-- what is spent and queued on a link, and its longest queue
abbrev pub link_delays : Setting → Counts → ℕ → List ℕ
link_delays s c link = link_numbers (spent_on s c link) (queued_on s c link) (queue s c link (fullest s c link)) (fullest s c link)

-- what is waited at the origin of a node, and when most wait
abbrev pub node_delays : Setting → Counts → ℕ → List ℕ
node_delays s c node = node_numbers (waited_at s c node) (waiting_at s c node (longest s c node)) (longest s c node)

-- what all spend, queue and wait, and the same of each link and of each node
unfoldable pub delays_report : ℕ → Setting → Counts → List ℕ
delays_report version s c = delays_line version (time_spent s c) (queued s c) (waited s c) s.links (link_delays s c) s.nodes (node_delays s c)
