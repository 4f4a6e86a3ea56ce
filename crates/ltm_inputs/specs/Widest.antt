-- The widest row of inputs.
use Rattle.std.specs.Prelude.{◌≡◌, ℕ, ◌<◌, ◌≤◌, ◌⊎◌}
use Rattle.ltm_node.specs.Shape.{width}
use Rattle.ltm_loading.specs.Setting.{Setting}
use Rattle.ltm_loading.specs.Pairs.{shape_at}

-- the greatest width of the first nodes, 0 where there are none
pub record IsWidest (s : Setting) (nodes widest : ℕ) : Type 0 where
  pub each : (u : ℕ) → u < nodes → width (shape_at s u) ≤ widest
  pub attained : (widest ≡ 0) ⊎ ((u : ℕ) × (u < nodes) × (width (shape_at s u) ≡ widest))
