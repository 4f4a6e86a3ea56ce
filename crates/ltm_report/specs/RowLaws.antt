-- What the lines of all links, nodes or boundaries tell is what the lines of each of them alone tell.
use Rattle.std.specs.Prelude.{ℕ, ◌≡◌, ◌<◌, ◌≤◌, ◌+◌, ◌-◌, List, [], codes}
use Rattle.ltm_curve.specs.Counts.{Counts}
use Rattle.ltm_loading.specs.Setting.{Setting, IsSetting}
use Rattle.ltm_flows.specs.Origins.{produced_in_all}
use Rattle.ltm_report.specs.Delays.{delay_line, link_delay_line, queue_line, node_delay_line, origin_line}
use Rattle.ltm_report.specs.DelayReports.{delay_report, link_delay_report, queue_report, node_delay_report, origin_report}
use Rattle.ltm_report.specs.Rows.{state_line, curve_line, departures_line, link_numbers, node_numbers, delays_line}
use Rattle.ltm_report.specs.Sampled.{told_boundaries, told_at, passed_line, departed_line, passed_report, departed_report}
use Rattle.ltm_report.specs.Samples.{samples_line, samples_report}
use Rattle.ltm_report.specs.RowReports.{state_report, curve_report, departures_report, delays_report}

-- at a link's place in `state` stand the numbers of its `queue` at the boundary, and at a node's place that of its `origin`
pub record StateOf (s : Setting) (c : Counts) (boundary : ℕ) : Type 0 where
  pub entered : ℕ → ℕ
  pub gone : ℕ → ℕ
  pub queued : ℕ → ℕ
  pub waiting : ℕ → ℕ
  pub produced : ℕ → ℕ
  pub departed : ℕ → ℕ
  pub state : (version : ℕ) → state_report version boundary s c ≡ state_line version boundary s.links s.nodes entered gone queued waiting
  pub queue : (version : ℕ) (name : List ℕ) (link : ℕ) →
      queue_report version name link boundary s c ≡ queue_line version name boundary (entered link) (gone link) (queued link)
  pub origin : (version : ℕ) (name : List ℕ) (node : ℕ) →
      origin_report version name node boundary s c ≡ origin_line version name boundary (produced node) (departed node) (waiting node)

abbrev pub StateTellsQueues : Type 0
StateTellsQueues = (s : Setting) (c : Counts) (boundary : ℕ) → StateOf s c boundary

-- at a boundary's place in `curve` stand what has entered the link and left it, as `queue` there tells them
pub record CurveOf (s : Setting) (c : Counts) (link : ℕ) : Type 0 where
  pub entered : ℕ → ℕ
  pub gone : ℕ → ℕ
  pub queued : ℕ → ℕ
  pub curve : (version : ℕ) (name : List ℕ) → curve_report version name link s c ≡ curve_line version name (s.slots + 1) entered gone
  pub queue : (version : ℕ) (name : List ℕ) (boundary : ℕ) →
      queue_report version name link boundary s c ≡ queue_line version name boundary (entered boundary) (gone boundary) (queued boundary)

abbrev pub CurvesTellQueues : Type 0
CurvesTellQueues = (s : Setting) (c : Counts) (link : ℕ) → CurveOf s c link

-- and in `departures` what the origin of the node has produced and what has left it, as `origin` there tells them
pub record DeparturesOf (s : Setting) (c : Counts) (node : ℕ) : Type 0 where
  pub produced : ℕ → ℕ
  pub departed : ℕ → ℕ
  pub waiting : ℕ → ℕ
  pub departures : (version : ℕ) (name : List ℕ) →
      departures_report version name node s c ≡ departures_line version name (s.slots + 1) produced departed
  pub origin : (version : ℕ) (name : List ℕ) (boundary : ℕ) →
      origin_report version name node boundary s c ≡ origin_line version name boundary (produced boundary) (departed boundary) (waiting boundary)

abbrev pub DeparturesTellOrigins : Type 0
DeparturesTellOrigins = (s : Setting) (c : Counts) (node : ℕ) → DeparturesOf s c node

-- `totals` has at each boundary that it tells what `curve` has there of the link
pub record TotalsOf (s : Setting) (c : Counts) (every link : ℕ) : Type 0 where
  pub entered : ℕ → ℕ
  pub gone : ℕ → ℕ
  pub curve : (version : ℕ) (name : List ℕ) → curve_report version name link s c ≡ curve_line version name (s.slots + 1) entered gone
  pub totals : (name : List ℕ) → passed_report every name link s c ≡ passed_line name (told_boundaries every s.slots)
      (λ place. entered (told_at every s.slots place)) (λ place. gone (told_at every s.slots place))
  pub within : (place : ℕ) → told_at every s.slots place ≤ s.slots

abbrev pub TotalsTellCurves : Type 0
TotalsTellCurves = (s : Setting) (c : Counts) (every link : ℕ) → TotalsOf s c every link

-- and of an origin what `departures` has there; one that produces nothing has no line
pub record TotalsFrom (s : Setting) (c : Counts) (every node : ℕ) : Type 0 where
  pub produced : ℕ → ℕ
  pub departed : ℕ → ℕ
  pub departures : (version : ℕ) (name : List ℕ) →
      departures_report version name node s c ≡ departures_line version name (s.slots + 1) produced departed
  pub totals : (name : List ℕ) → 0 < produced s.slots → departed_report every name node s c ≡ departed_line name (told_boundaries every s.slots)
      (λ place. departed (told_at every s.slots place))
  pub idle : (name : List ℕ) → produced s.slots ≡ 0 → departed_report every name node s c ≡ []

abbrev pub TotalsTellDepartures : Type 0
TotalsTellDepartures = (s : Setting) (c : Counts) (every node : ℕ) → TotalsFrom s c every node

-- the last boundary is told, and of the others the multiples of so many slots
abbrev pub LastIsTold : Type 0
LastIsTold = (every slots : ℕ) → 0 < every → told_at every slots (told_boundaries every slots - 1) ≡ slots

-- the line of all links and nodes by so many slots has at a link's place what `curve` has there of the link, and at a node's
-- place what `departures` has there of its origin, at each boundary that it tells
pub record SamplesOf (s : Setting) (c : Counts) (every : ℕ) : Type 0 where
  pub entered : ℕ → ℕ → ℕ
  pub gone : ℕ → ℕ → ℕ
  pub produced : ℕ → ℕ → ℕ
  pub departed : ℕ → ℕ → ℕ
  pub curve : (version : ℕ) (name : List ℕ) (link : ℕ) →
      curve_report version name link s c ≡ curve_line version name (s.slots + 1) (entered link) (gone link)
  pub departures : (version : ℕ) (name : List ℕ) (node : ℕ) →
      departures_report version name node s c ≡ departures_line version name (s.slots + 1) (produced node) (departed node)
  pub samples : (version : ℕ) →
      samples_report every version s c ≡ samples_line version every s.links s.nodes (told_boundaries every s.slots)
      (λ link place. entered link (told_at every s.slots place))
      (λ link place. gone link (told_at every s.slots place))
      (λ node place. departed node (told_at every s.slots place))
  pub within : (place : ℕ) → told_at every s.slots place ≤ s.slots

abbrev pub SamplesTellCurves : Type 0
SamplesTellCurves = (s : Setting) (c : Counts) (every : ℕ) → SamplesOf s c every

-- `delays` has the numbers of `delay`, at a link's place those of its line in the report of a case, and at a node's place
-- those of its line there; of a node that has no line there all are 0
pub record DelaysOf (s : Setting) (c : Counts) : Type 0 where
  pub spent : ℕ
  pub queued : ℕ
  pub waited : ℕ
  pub spent_on : ℕ → ℕ
  pub queued_on : ℕ → ℕ
  pub most_queued : ℕ → ℕ
  pub fullest : ℕ → ℕ
  pub waited_at : ℕ → ℕ
  pub most_waiting : ℕ → ℕ
  pub longest : ℕ → ℕ
  pub delays : (version : ℕ) →
      delays_report version s c ≡ delays_line version spent queued waited
      s.links (λ link. link_numbers (spent_on link) (queued_on link) (most_queued link) (fullest link))
      s.nodes (λ node. node_numbers (waited_at node) (most_waiting node) (longest node))
  pub delay : (version : ℕ) → delay_report version s c ≡ delay_line version spent queued waited
  pub link : (name : List ℕ) (link : ℕ) →
      link_delay_report name link s c ≡ link_delay_line name (spent_on link) (queued_on link) (most_queued link) (fullest link)
  pub node : (name : List ℕ) (node : ℕ) → 0 < produced_in_all s node s.slots →
      node_delay_report name node s c ≡ node_delay_line name (waited_at node) (most_waiting node) (longest node)
  pub idle : (name : List ℕ) (node : ℕ) → node < s.nodes → produced_in_all s node s.slots ≡ 0 →
      (node_delay_report name node s c ≡ []) × (node_numbers (waited_at node) (most_waiting node) (longest node) ≡ codes " 0.000000 0.000 0")

abbrev pub DelaysTellDelay : Type 0
DelaysTellDelay = (s : Setting) (c : Counts) → IsSetting s → DelaysOf s c
