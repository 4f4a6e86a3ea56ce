-- What is kept of a boundary: the totals of links, and of what has left origins.
use Rattle.std.specs.Prelude.{◌≡◌, ◌≢◌, ℕ, ◌+◌, ◌*◌, ◌<◌, ◌≤◌, ◌⊎◌, if◌then◌else◌, nat_lt, List, length, map, slice_index, slice_index_or}
use Rattle.ltm_curve.specs.Counts.{Counts, total}
use Rattle.ltm_curve.specs.declared.total_curves.TotalCurves.{TotalCurves}
use Rattle.ltm_curve.specs.TotalCurves as curves
use Rattle.ltm_loading.specs.Setting.{Setting}
use Rattle.ltm_loading.specs.Groups.{up_of, down_of, arr_of}
use Rattle.ltm_totals.specs.Totals.{total_at}
use Rattle.ltm_lean.specs.declared.node.LeanNode.{LeanNode}
use Rattle.ltm_lean.specs.declared.tables.Tables.{Tables}
use Rattle.ltm_lean.specs.Nodes.{IsNodeAt, StandsAtNode}

-- the totals of the first links at a boundary are put into a table, and no other is changed
pub record PutsLinks (x : Tables) (links boundary : ℕ) (old new : TotalCurves) : Type 0 where
  pub shape : curves.HasTotals new (curves.total_groups old) (curves.total_slots old)
  pub up : (l : ℕ) → l < links → curves.total_at new (up_of l) boundary ≡ total_at x.entered l boundary
  pub down : (l : ℕ) → l < links → curves.total_at new (down_of l) boundary ≡ total_at x.left l boundary
  pub others : (g k : ℕ) → curves.IsTotal old g k → (2 * links ≤ g) ⊎ (k ≢ boundary) → curves.total_at new g k ≡ curves.total_at old g k

-- what has left the origin of a node; nothing, where no link leads out of it
abbrev pub departed_at : LeanNode → ℕ
departed_at n = if nat_lt 0 (length n.outs.items) then n.left else 0

-- what has left the origins of the first nodes by a boundary is put into a table behind so many links, and no other is changed
pub record PutsOrigins (nodes : List LeanNode) (links count boundary : ℕ) (old new : TotalCurves) : Type 0 where
  pub shape : curves.HasTotals new (curves.total_groups old) (curves.total_slots old)
  pub here : (u : ℕ) → u < count → curves.total_at new (2 * links + u) boundary ≡ slice_index (map departed_at nodes) u
  pub others : (g k : ℕ) → curves.IsTotal old g k → ((u : ℕ) → u < count → 2 * links + u ≢ g) ⊎ (k ≢ boundary) → curves.total_at new g k ≡ curves.total_at old g k

-- by each boundary before one a table has the totals of links and origins
abbrev pub KeptBefore : Setting → Counts → ℕ → TotalCurves → Type 0
KeptBefore s c before t = (g k : ℕ) → g < arr_of s → k < before → k ≤ s.slots → curves.total_at t g k ≡ total s.destinations (c g) k

-- a node for each number
pub record AreNodes (s : Setting) (x : Tables) (nodes : List LeanNode) : Type 0 where
  pub count : length nodes ≡ s.nodes
  pub each : (u : ℕ) (d : LeanNode) → u < s.nodes → IsNodeAt s x (slice_index_or nodes u d)
  pub number : (u : ℕ) (d : LeanNode) → u < s.nodes → (slice_index_or nodes u d).node.0 ≡ u

-- what stands at all of them is that of these counts at a boundary, where all that entered before another is taken in
abbrev pub AllStand : Setting → Counts → Tables → ℕ → ℕ → List LeanNode → Type 0
AllStand s c x before boundary nodes = (u : ℕ) (d : LeanNode) → u < s.nodes → StandsAtNode s c x before boundary (slice_index_or nodes u d)
