-- Who could have left a link, who stands in its queue, who drives on it, and who waits at an origin.
use Rattle.std.specs.Prelude.{ℕ, ◌-◌, ◌*◌, nat_lt, if◌then◌else◌}
use Rattle.ltm_units.specs.Sums.{sum_below}
use Rattle.ltm_curve.specs.Counts.{Counts, interpolated}
use Rattle.ltm_loading.specs.Setting.{Setting}
use Rattle.ltm_loading.specs.Totals.{entered_link, left_link}
use Rattle.ltm_flows.specs.Origins.{produced_in_all, departed_from}

-- a curve so long before a boundary, rounded down; 0 before the start
unfoldable pub delayed : (ℕ → ℕ) → ℕ → ℕ → ℕ → ℕ
delayed counts step delay k = if nat_lt (k * step) delay then 0 else interpolated counts step (k * step - delay)

-- how many of those that entered a link could have left it by a boundary at free speed
abbrev pub ready : Setting → Counts → ℕ → ℕ → ℕ
ready s c link k = delayed (entered_link s c link) s.step (s.free_time link) k

-- those who could have left a link by a boundary and have not
abbrev pub queue : Setting → Counts → ℕ → ℕ → ℕ
queue s c link k = ready s c link k - left_link s c link k

-- those on a link who could not have left it yet
abbrev pub driving : Setting → Counts → ℕ → ℕ → ℕ
driving s c link k = entered_link s c link k - ready s c link k

-- those whom an origin has produced by a boundary and who have not left it
abbrev pub waiting_at : Setting → Counts → ℕ → ℕ → ℕ
waiting_at s c node k = produced_in_all s node k - departed_from s c node k

-- those in the queues of all links, and those who drive on them
abbrev pub in_queues : Setting → Counts → ℕ → ℕ
in_queues s c k = sum_below s.links (λ link. queue s c link k)

abbrev pub in_motion : Setting → Counts → ℕ → ℕ
in_motion s c k = sum_below s.links (λ link. driving s c link k)
