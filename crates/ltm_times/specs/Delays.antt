-- The time that vehicles spend on links, in queues and at their origins, in units times milliseconds.
use Rattle.std.specs.Prelude.{ℕ, ◌≡◌, ◌+◌, ◌-◌, ◌*◌, ◌<◌, List, slice_index_or}
use Rattle.ltm_units.specs.Sums.{sum_below}
use Rattle.ltm_curve.specs.Counts.{Counts}
use Rattle.ltm_loading.specs.Setting.{Setting}
use Rattle.ltm_loading.specs.Totals.{entered_link, left_link, waiting}
use Rattle.ltm_times.specs.declared.delays.LinkDelay.{LinkDelay}
use Rattle.ltm_times.specs.declared.delays.LinkState.{LinkState}
use Rattle.ltm_times.specs.declared.delays.OriginState.{OriginState}
use Rattle.ltm_times.specs.declared.delays.OriginDelay.{OriginDelay}
use Rattle.ltm_times.specs.declared.delays.DelayTotals.{DelayTotals}
use Rattle.ltm_flows.specs.Origins.{produced_in_all, departed_from}
use Rattle.ltm_times.specs.Queues.{queue, driving, waiting_at, in_queues, in_motion}
use Rattle.ltm_times.specs.Peaks.{peak, IsPeakOf}
use Rattle.ltm_times.specs.Times.{time_spent}

-- how many there are at each boundary after the start up to one, each for a step
abbrev pub over_slots : Setting → ℕ → (ℕ → ℕ) → ℕ
over_slots s k f = sum_below k (λ t. f (t + 1)) * s.step

-- and up to the last
abbrev pub over_time : Setting → (ℕ → ℕ) → ℕ
over_time s f = over_slots s s.slots f

-- ---- of a link
abbrev pub spent_on : Setting → Counts → ℕ → ℕ
spent_on s c link = over_time s (λ k. entered_link s c link k - left_link s c link k)

abbrev pub queued_on : Setting → Counts → ℕ → ℕ
queued_on s c link = over_time s (queue s c link)

-- what the vehicles would spend with no queue
abbrev pub driven_on : Setting → Counts → ℕ → ℕ
driven_on s c link = over_time s (driving s c link)

-- the first boundary at which most stand in its queue
abbrev pub fullest : Setting → Counts → ℕ → ℕ
fullest s c link = peak (queue s c link) s.slots

-- ---- of an origin
abbrev pub waited_at : Setting → Counts → ℕ → ℕ
waited_at s c node = over_time s (waiting_at s c node)

-- the first boundary at which most wait
abbrev pub longest : Setting → Counts → ℕ → ℕ
longest s c node = peak (waiting_at s c node) s.slots

-- ---- of all
abbrev pub queued : Setting → Counts → ℕ
queued s c = over_time s (in_queues s c)

abbrev pub waited : Setting → Counts → ℕ
waited s c = over_time s (waiting s c)

abbrev pub driven : Setting → Counts → ℕ
driven s c = over_time s (in_motion s c)

-- ---- what is told of them
pub record IsLinkState (s : Setting) (c : Counts) (link boundary : ℕ) (l : LinkState) : Type 0 where
  pub entered : l.entered.0 ≡ entered_link s c link boundary
  pub left : l.left.0 ≡ left_link s c link boundary
  pub queue : l.queue.0 ≡ queue s c link boundary

-- up to a boundary
pub record IsLinkDelayBy (s : Setting) (c : Counts) (link k : ℕ) (d : LinkDelay) : Type 0 where
  pub spent : d.spent ≡ over_slots s k (λ j. entered_link s c link j - left_link s c link j)
  pub queued : d.queued ≡ over_slots s k (queue s c link)
  pub peak : IsPeakOf (queue s c link) k d.peak

-- up to the last
abbrev pub IsLinkDelay : Setting → Counts → ℕ → LinkDelay → Type 0
IsLinkDelay s c link d = IsLinkDelayBy s c link s.slots d

-- of each link, by its number
abbrev pub AreLinkDelays : Setting → Counts → List LinkDelay → Type 0
AreLinkDelays s c delays = (link : ℕ) (d : LinkDelay) → link < s.links → IsLinkDelay s c link (slice_index_or delays link d)

pub record IsOriginState (s : Setting) (c : Counts) (node boundary : ℕ) (o : OriginState) : Type 0 where
  pub produced : o.produced.0 ≡ produced_in_all s node boundary
  pub left : o.left.0 ≡ departed_from s c node boundary
  pub waiting : o.waiting.0 ≡ waiting_at s c node boundary

pub record IsOriginDelay (s : Setting) (c : Counts) (node : ℕ) (d : OriginDelay) : Type 0 where
  pub waited : d.waited ≡ waited_at s c node
  pub peak : IsPeakOf (waiting_at s c node) s.slots d.peak

pub record AreDelayTotals (s : Setting) (c : Counts) (d : DelayTotals) : Type 0 where
  pub spent : d.spent ≡ time_spent s c
  pub queued : d.queued ≡ queued s c
  pub waited : d.waited ≡ waited s c
