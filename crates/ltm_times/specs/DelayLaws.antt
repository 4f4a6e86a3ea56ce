-- What holds of queues and delays in every loading.
use Rattle.std.specs.Prelude.{◌≡◌, ℕ, ◌+◌, ◌-◌, ◌<◌, ◌≤◌}
use Rattle.ltm_units.specs.Sums.{sum_below}
use Rattle.ltm_curve.specs.Counts.{Counts}
use Rattle.ltm_loading.specs.Setting.{Setting, IsSetting}
use Rattle.ltm_loading.specs.Loading.{IsLoading}
use Rattle.ltm_loading.specs.Totals.{entered_link, left_link}
use Rattle.ltm_flows.specs.Origins.{produced_in_all, departed_from}
use Rattle.ltm_times.specs.Queues.{ready, queue}
use Rattle.ltm_times.specs.Times.{time_spent}
use Rattle.ltm_times.specs.Delays.{spent_on, queued_on, driven_on, waited_at, queued, waited, driven}

-- no more has left a link than could have left it at free speed
abbrev pub LeftWasReady : Type 0
LeftWasReady =
    (s : Setting) (c : Counts) → IsSetting s → IsLoading s c → (link k : ℕ) → link < s.links → k ≤ s.slots →
    left_link s c link k ≤ ready s c link k

-- no more has left an origin than it has produced
abbrev pub LeftWasProduced : Type 0
LeftWasProduced =
    (s : Setting) (c : Counts) → IsSetting s → IsLoading s c → (node k : ℕ) → node < s.nodes → k ≤ s.slots →
    departed_from s c node k ≤ produced_in_all s node k

-- a queue is at most what is on its link, which is at most the link's storage
pub record IsQueueOnLink (s : Setting) (c : Counts) (link k : ℕ) : Type 0 where
  pub on_link : queue s c link k ≤ entered_link s c link k - left_link s c link k
  pub stored : queue s c link k ≤ s.storage link

abbrev pub QueuesStandOnLinks : Type 0
QueuesStandOnLinks =
    (s : Setting) (c : Counts) → IsSetting s → IsLoading s c → (link k : ℕ) → link < s.links → k ≤ s.slots → IsQueueOnLink s c link k

-- what is spent on a link is queued or driven there, and what all spend is queued, waited or driven
pub record IsSpentSo (s : Setting) (c : Counts) : Type 0 where
  pub each : (link : ℕ) → link < s.links → spent_on s c link ≡ queued_on s c link + driven_on s c link
  pub all : time_spent s c ≡ queued s c + waited s c + driven s c

abbrev pub SpentAddsUp : Type 0
SpentAddsUp = (s : Setting) (c : Counts) → IsSetting s → IsLoading s c → IsSpentSo s c

-- what is spent on each link and what is waited are what all spend; what is queued on each link is what all queue, and
-- what is waited at each origin is what all wait
pub record AreSummed (s : Setting) (c : Counts) : Type 0 where
  pub spent : time_spent s c ≡ sum_below s.links (spent_on s c) + waited s c
  pub queued : queued s c ≡ sum_below s.links (queued_on s c)
  pub waited : waited s c ≡ sum_below s.nodes (waited_at s c)

abbrev pub DelaysAreSummed : Type 0
DelaysAreSummed = (s : Setting) (c : Counts) → IsSetting s → IsLoading s c → AreSummed s c
