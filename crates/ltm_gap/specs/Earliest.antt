-- The earliest arrivals at the link times of a loading.
use Rattle.std.specs.Prelude.{ℕ, Option}
use Rattle.ltm_curve.specs.Counts.{Counts}
use Rattle.ltm_loading.specs.Setting.{Setting}
use Rattle.ltm_gap.specs.Leaving.{leaves, starts}
use Rattle.ltm_search.specs.Ways.{Ways}
use Rattle.ltm_gap.specs.Within.{earliest_within}

-- the links of a setting as its loading passes them
abbrev pub ways : Setting → Counts → Ways
ways s c = record { nodes = s.nodes; links = s.links; tail = s.tail; head = s.head; leaves = leaves s c }

-- when the unit of a number, which an origin produces in a slot, could come to a node at the earliest; each link takes a step, so
-- who passes more links than there are slots comes after the end
abbrev pub earliest : Setting → Counts → ℕ → ℕ → ℕ → ℕ → Option ℕ
earliest s c origin slot number = earliest_within (ways s c) origin (starts s c origin slot number) s.slots
