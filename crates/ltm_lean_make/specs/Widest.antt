-- The widest row of a node for the destinations of its list.
use Rattle.std.specs.Prelude.{◌≡◌, ℕ, ◌<◌, ◌≤◌, ◌⊎◌, None, length}
use Rattle.ltm_node.specs.Shape.{width}
use Rattle.ltm_loading.specs.Setting.{Setting}
use Rattle.ltm_used.specs.Lists.{list_of}
use Rattle.ltm_lean_node.specs.Rows.{listed_shape}
use Rattle.ltm_lean.specs.declared.tables.Tables.{Tables}

-- how many numbers the inputs of a node are, for the destinations of its list; which of them it is makes no difference
abbrev pub listed_width : Setting → Tables → ℕ → ℕ
listed_width s x u = width (listed_shape s u (length (list_of x.nodes u)) None)

-- the greatest width of the first nodes, 0 where there are none
pub record IsWidestListed (s : Setting) (x : Tables) (nodes widest : ℕ) : Type 0 where
  pub each : (u : ℕ) → u < nodes → listed_width s x u ≤ widest
  pub attained : (widest ≡ 0) ⊎ ((u : ℕ) × ((u < nodes) × (listed_width s x u ≡ widest)))
