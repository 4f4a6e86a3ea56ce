-- Nodes that follow one another, and what moves at each of them in a slot.
use Rattle.std.specs.Prelude.{◌≡◌, ℕ, ◌+◌, ◌-◌, ◌<◌, List, All, length, map}
use Rattle.ltm_curve.specs.Counts.{Counts}
use Rattle.ltm_loading.specs.Setting.{Setting}
use Rattle.ltm_loading.specs.Loading.{IsLoading}
use Rattle.ltm_lean.specs.declared.node.LeanNode.{LeanNode}
use Rattle.ltm_lean.specs.declared.tables.Tables.{Tables}
use Rattle.ltm_lean.specs.Nodes.{AreTables, IsFrozen, IsNodeAt, StandsAtNode, MovedAtNode}
use Rattle.ltm_lean_load.specs.Nodes.{HasRoomForAll}
use Rattle.ltm_lean_threads.specs.declared.parts.Part.{Part}

abbrev pub number_of : LeanNode → ℕ
number_of n = n.node.0

-- what all nodes read is as it is at the beginning of a slot
pub record IsBegun (s : Setting) (x : Tables) (t : ℕ) : Type 0 where
  pub slot : t < s.slots
  pub tables : AreTables s x
  pub frozen : (c : Counts) → IsLoading s c → IsFrozen s c t x

-- a node as it is at the beginning of a slot
pub record CanMove (s : Setting) (x : Tables) (t : ℕ) (n : LeanNode) : Type 0 where
  pub node : IsNodeAt s x n
  pub stands : (c : Counts) → IsLoading s c → StandsAtNode s c x (t - 1) t n

-- a node as it is behind a slot
pub record HasMoved (s : Setting) (x : Tables) (t : ℕ) (n : LeanNode) : Type 0 where
  pub stands : (c : Counts) → IsLoading s c → StandsAtNode s c x t (t + 1) n
  pub moved : (c : Counts) → IsLoading s c → MovedAtNode s c x t n

-- a part with room for the step of any node
abbrev pub HasRoom : Setting → Tables → Part → Type 0
HasRoom s x p = HasRoomForAll s x p.room

-- parts and nodes as they are at the beginning of a slot; there is a part
pub record AreReady (s : Setting) (x : Tables) (t : ℕ) (ps : List Part) (ns : List LeanNode) : Type 0 where
  pub begun : IsBegun s x t
  pub filled : 0 < length ps
  pub rooms : All (HasRoom s x) ps
  pub nodes : All (CanMove s x t) ns

-- as many parts with as much room, and the same nodes, whatever stands there
pub record AreSame (s : Setting) (x : Tables) (ps : List Part) (ns : List LeanNode) (ps_then : List Part) (ns_then : List LeanNode) : Type 0 where
  pub count : length ps_then ≡ length ps
  pub rooms : All (HasRoom s x) ps_then
  pub nodes : All (IsNodeAt s x) ns_then
  pub numbers : map number_of ns_then ≡ map number_of ns
