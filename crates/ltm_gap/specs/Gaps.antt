-- What those who travel spend, an estimate of the least that they could, and who is late, in units times milliseconds and units.
use Rattle.std.specs.Prelude.{ℕ, ◌+◌, ◌-◌, ◌*◌, ◌/◌, Bool, true, false, Option, Some, None}
use Rattle.ltm_units.specs.Numbers.{first_below}
use Rattle.ltm_units.specs.Sums.{sum_below}
use Rattle.ltm_curve.specs.Counts.{Counts}
use Rattle.ltm_loading.specs.Setting.{Setting}
use Rattle.ltm_loading.specs.Groups.{arr_of}
use Rattle.ltm_flows.specs.Origins.{produced_in_all}
use Rattle.ltm_gap.specs.Earliest.{earliest}

-- what an origin produces for a destination in a slot
abbrev pub produced_in : Setting → ℕ → ℕ → ℕ → ℕ
produced_in s origin destination slot = s.produced origin destination (slot + 1) - s.produced origin destination slot

-- and for all destinations
abbrev pub units_in : Setting → ℕ → ℕ → ℕ
units_in s origin slot = produced_in_all s origin (slot + 1) - produced_in_all s origin slot

-- ---- which of the units of a slot arrive
abbrev pub is_none : Option ℕ → Bool
is_none None = true
is_none (Some x) = false

abbrev pub number_or : ℕ → Option ℕ → ℕ
number_or other None = other
number_or other (Some k) = k

-- how many of the first n come before one that has none
abbrev pub before_none : (ℕ → Option ℕ) → ℕ → ℕ
before_none f n = number_or n (first_below (λ k. is_none (f k)) n)

-- the earliest arrival at a node of the unit that comes behind so many of a slot's
abbrev pub next_arrival : Setting → Counts → ℕ → ℕ → ℕ → ℕ → Option ℕ
next_arrival s c node origin slot count = earliest s c origin slot (produced_in_all s origin slot + (count + 1)) node

-- how many of a slot's units some route brings to a node by the end: those before the first that no route does
unfoldable pub arriving : Setting → Counts → ℕ → ℕ → ℕ → ℕ
arriving s c node origin slot = before_none (next_arrival s c node origin slot) (units_in s origin slot)

-- the others are late; a destination has its share of them, rounded down
abbrev pub share_of : ℕ → ℕ → ℕ → ℕ
share_of units part all = units * part / all

abbrev pub late_in : Setting → Counts → ℕ → ℕ → ℕ → ℕ
late_in s c destination origin slot =
    share_of (produced_in s origin destination slot) (units_in s origin slot - arriving s c (s.place destination) origin slot) (units_in s origin slot)

-- ---- how long they take
-- twice the time of those who arrive, for which the mean of the first's and of the last's stands: the first's from the beginning
-- of the slot, the last's from its end
abbrev pub twice_time : ℕ → ℕ → Option ℕ → Option ℕ → ℕ
twice_time step slot (Some first) (Some last) = (first - slot * step) + (last - (slot + 1) * step)
twice_time step slot (Some first) None = 0
twice_time step slot None last = 0

-- twice the time until the end, as `spent` counts it of a unit that has not arrived
abbrev pub twice_left : ℕ → ℕ → ℕ → ℕ
twice_left step slots slot = 2 * ((slots - slot) * step)

-- twice the time of so many units, of which some are late
abbrev pub twice_of : ℕ → ℕ → ℕ → ℕ → ℕ
twice_of units late time left = (units - late) * time + late * left

abbrev pub twice_in : Setting → Counts → ℕ → ℕ → ℕ → ℕ
twice_in s c destination origin slot =
    twice_of (produced_in s origin destination slot) (late_in s c destination origin slot)
    (twice_time s.step slot (earliest s c origin slot (produced_in_all s origin slot) (s.place destination))
    (earliest s c origin slot (produced_in_all s origin slot + arriving s c (s.place destination) origin slot) (s.place destination)))
    (twice_left s.step s.slots slot)

-- ---- over all origins and slots
abbrev pub over_all : Setting → (ℕ → ℕ → ℕ) → ℕ
over_all s f = sum_below s.nodes (λ origin. sum_below s.slots (f origin))

-- an estimate of the least time of all who travel to a destination, and how many of them no route brings there by the end
abbrev pub least_to : Setting → Counts → ℕ → ℕ
least_to s c destination = over_all s (twice_in s c destination) / 2

abbrev pub late_to : Setting → Counts → ℕ → ℕ
late_to s c destination = over_all s (late_in s c destination)

-- what they spend: those who were produced and have not arrived, boundary by boundary, each for a step
abbrev pub spent_to : Setting → Counts → ℕ → ℕ
spent_to s c destination =
    sum_below s.slots (λ t. sum_below s.nodes (λ origin. s.produced origin destination (t + 1)) - c (arr_of s) destination (t + 1)) * s.step

-- ---- of all who travel
abbrev pub least : Setting → Counts → ℕ
least s c = sum_below s.destinations (least_to s c)

abbrev pub late : Setting → Counts → ℕ
late s c = sum_below s.destinations (late_to s c)
