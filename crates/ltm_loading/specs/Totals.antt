-- What counts come to in all, at a boundary.
use Rattle.std.specs.Prelude.{ℕ, ◌-◌}
use Rattle.ltm_units.specs.Sums.{sum_below}
use Rattle.ltm_curve.specs.Counts.{Counts, total}
use Rattle.ltm_loading.specs.Setting.{Setting}
use Rattle.ltm_loading.specs.Groups.{up_of, down_of, dep_of, arr_of}

-- what all origins have produced
abbrev pub generated : Setting → ℕ → ℕ
generated s k = sum_below s.nodes (λ u. total s.destinations (s.produced u) k)

-- what has left an origin
abbrev pub departed : Setting → Counts → ℕ → ℕ
departed s c k = sum_below s.nodes (λ u. total s.destinations (c (dep_of s u)) k)

-- what has arrived at its destination
abbrev pub arrived : Setting → Counts → ℕ → ℕ
arrived s c k = total s.destinations (c (arr_of s)) k

-- what has entered and has left a link
abbrev pub entered_link : Setting → Counts → ℕ → ℕ → ℕ
entered_link s c l k = total s.destinations (c (up_of l)) k

abbrev pub left_link : Setting → Counts → ℕ → ℕ → ℕ
left_link s c l k = total s.destinations (c (down_of l)) k

-- what is on links
abbrev pub on_links : Setting → Counts → ℕ → ℕ
on_links s c k = sum_below s.links (λ l. entered_link s c l k - left_link s c l k)

-- what waits at its origin
abbrev pub waiting : Setting → Counts → ℕ → ℕ
waiting s c k = generated s k - departed s c k
