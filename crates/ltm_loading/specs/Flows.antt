-- What a link or an origin would send in a slot, and what a link can take.
use Rattle.std.specs.Prelude.{ℕ, ◌+◌, ◌-◌, ◌*◌, ◌/◌, min, if◌then◌else◌, nat_lt, nat_le}
use Rattle.ltm_units.specs.Sums.{sum_below}
use Rattle.ltm_curve.specs.Counts.{Counts, total, interpolated}
use Rattle.ltm_curve.specs.First.{last_within, first_units}
use Rattle.ltm_loading.specs.Setting.{Setting}
use Rattle.ltm_loading.specs.Groups.{up_of, down_of, dep_of}

-- a total some time before the end of a slot; 0 before the start
abbrev pub earlier : (ℕ → ℕ) → ℕ → ℕ → ℕ → ℕ
earlier counts step slot delay =
    if nat_lt ((slot + 1) * step) delay then 0 else interpolated counts step ((slot + 1) * step - delay)

-- how many of all units that entered a link may have left it by the end of a slot
abbrev pub link_goal : Setting → Counts → ℕ → ℕ → ℕ
link_goal s c l t =
    min (earlier (total s.destinations (c (up_of l))) s.step t (s.free_time l)) (total s.destinations (c (down_of l)) t + s.capacity l t)

-- the position of a slot for a link: the last boundary by which no more has entered the link than may have left it by the
-- slot's end
abbrev pub position : Setting → Counts → ℕ → ℕ → ℕ
position s c l slot = last_within (total s.destinations (c (up_of l))) (link_goal s c l slot) slot

-- what a link would send of a destination without an exit limit: its part of those units that has not left yet
abbrev pub link_first : Setting → Counts → ℕ → ℕ → ℕ → ℕ
link_first s c l t d = first_units s.destinations (c (up_of l)) (link_goal s c l t) t d - c (down_of l) d t

-- a part of a whole of which no more than a limit may pass, rounded down
abbrev pub limited : ℕ → ℕ → ℕ → ℕ
limited limit whole part = if nat_le whole limit then part else part * limit / whole

-- what a link sends of a destination
abbrev pub link_sending : Setting → Counts → ℕ → ℕ → ℕ → ℕ
link_sending s c l t d = limited (s.exit_limit l t) (sum_below s.destinations (link_first s c l t)) (link_first s c l t d)

-- how many of all units that a node has produced may have left its origin by the end of a slot
abbrev pub origin_goal : Setting → Counts → ℕ → ℕ → ℕ
origin_goal s c u t = min (total s.destinations (s.produced u) (t + 1)) (total s.destinations (c (dep_of s u)) t + s.origin_capacity)

-- what the origin of a node sends of a destination
abbrev pub origin_sending : Setting → Counts → ℕ → ℕ → ℕ → ℕ
origin_sending s c u t d = first_units s.destinations (s.produced u) (origin_goal s c u t) (t + 1) d - c (dep_of s u) d t

-- what a link can take: its capacity, its entry limit, and the room that it has had since a wave ago
abbrev pub receiving : Setting → Counts → ℕ → ℕ → ℕ
receiving s c l t =
    min (s.capacity l t) (min (s.entry_limit l t)
    (earlier (total s.destinations (c (down_of l))) s.step t (s.wave_time l) + s.storage l - total s.destinations (c (up_of l)) t))
