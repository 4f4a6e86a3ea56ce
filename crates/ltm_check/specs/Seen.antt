-- Which curves are seen through a window, and which groups of them.
use Rattle.std.specs.Prelude.{ℕ, ◌<◌, ◌≤◌}
use Rattle.ltm_curve.specs.declared.curves.Curves.{Curves}
use Rattle.ltm_check.specs.declared.window.Window.{Window}

-- the curves on which the window is
abbrev pub curves_of : Window → Curves
curves_of w = w.curves.now

-- the group is in the window
pub record IsSeen (w : Window) (group : ℕ) : Type 0 where
  pub from : w.first ≤ group
  pub below : group < w.end
