-- What holds of earliest arrivals, of late units and of what is spent, in every loading.
use Rattle.std.specs.Prelude.{ℕ, ◌≡◌, ◌+◌, ◌<◌, ◌≤◌, List, Some, None}
use Rattle.ltm_units.specs.Sums.{sum_below}
use Rattle.ltm_curve.specs.Counts.{Counts}
use Rattle.ltm_loading.specs.Setting.{Setting, IsSetting}
use Rattle.ltm_loading.specs.Loading.{IsLoading}
use Rattle.ltm_flows.specs.Origins.{produced_in_all}
use Rattle.ltm_times.specs.Times.{time_spent}
use Rattle.ltm_search.specs.Ways.{IsRoute, arrival}
use Rattle.ltm_gap.specs.Leaving.{starts}
use Rattle.ltm_gap.specs.Within.{IsEarliestFrom}
use Rattle.ltm_gap.specs.Earliest.{ways, earliest}
use Rattle.ltm_gap.specs.Gaps.{units_in, next_arrival, arriving, spent_to}

-- an earliest arrival is that of a route, and none comes before by any route; where there is none, no route arrives by the end
abbrev pub EarliestIsFirst : Type 0
EarliestIsFirst =
    (s : Setting) (c : Counts) → IsSetting s → IsLoading s c → (origin slot number node : ℕ) →
    IsEarliestFrom (ways s c) origin (starts s c origin slot number) node (earliest s c origin slot number node)

-- no unit that sets out from an origin could have arrived before, by any route, at the link times of this loading
abbrev pub NobodyComesBefore : Type 0
NobodyComesBefore =
    (s : Setting) (c : Counts) → IsSetting s → IsLoading s c → (origin slot number node start time : ℕ) (links : List ℕ) →
    starts s c origin slot number ≡ Some start → IsRoute (ways s c) origin node links → arrival (ways s c) links start ≡ Some time →
    (first : ℕ) × (earliest s c origin slot number node ≡ Some first) × (first ≤ time)

-- where a unit of a slot can arrive, each unit before it can, and no later
abbrev pub ArriveInOrder : Type 0
ArriveInOrder =
    (s : Setting) (c : Counts) → IsSetting s → IsLoading s c → (origin slot before number node time : ℕ) → before ≤ number →
    earliest s c origin slot number node ≡ Some time →
    (sooner : ℕ) × (earliest s c origin slot before node ≡ Some sooner) × (sooner ≤ time)

-- of the units that an origin produces in a slot exactly those that arrive have an earliest arrival: no route brings the others
-- there by the end
abbrev pub LateIsExact : Type 0
LateIsExact =
    (s : Setting) (c : Counts) → IsSetting s → IsLoading s c → (origin slot node count : ℕ) → count < units_in s origin slot →
    (count < arriving s c node origin slot → (time : ℕ) × (next_arrival s c node origin slot count ≡ Some time))
    × (arriving s c node origin slot ≤ count → next_arrival s c node origin slot count ≡ None)

-- the last unit of a slot in which something is produced is the one that is produced at the boundary behind it
abbrev pub SlotsMeet : Type 0
SlotsMeet =
    (s : Setting) (c : Counts) → IsSetting s → IsLoading s c → (origin slot node : ℕ) → origin < s.nodes → slot < s.slots →
    produced_in_all s origin slot < produced_in_all s origin (slot + 1) →
    earliest s c origin slot (produced_in_all s origin (slot + 1)) node ≡ earliest s c origin (slot + 1) (produced_in_all s origin (slot + 1)) node

-- what all spend is what those to each destination spend
abbrev pub SpentAddsUp : Type 0
SpentAddsUp = (s : Setting) (c : Counts) → IsSetting s → IsLoading s c → time_spent s c ≡ sum_below s.destinations (spent_to s c)
