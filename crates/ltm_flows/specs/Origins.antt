-- What an origin comes to in all, at a boundary.
use Rattle.std.specs.Prelude.{ℕ}
use Rattle.ltm_curve.specs.Counts.{Counts, total}
use Rattle.ltm_loading.specs.Setting.{Setting}
use Rattle.ltm_loading.specs.Groups.{dep_of}

-- what the origin of a node has produced, of all destinations together
abbrev pub produced_in_all : Setting → ℕ → ℕ → ℕ
produced_in_all s node k = total s.destinations (s.produced node) k

-- what has left the origin of a node
abbrev pub departed_from : Setting → Counts → ℕ → ℕ → ℕ
departed_from s c node k = total s.destinations (c (dep_of s node)) k
