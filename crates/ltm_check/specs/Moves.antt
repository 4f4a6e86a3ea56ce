-- What moves at a node in a slot, as its counts at the slot's beginning and end tell it.
use Rattle.std.specs.Prelude.{ℕ, ◌≡◌, ◌<◌, ◌+◌, ◌*◌, Option, Some, None, slice_index}
use Rattle.ltm_curve.specs.Counts.{Counts}
use Rattle.ltm_node.specs.Outputs.{Outputs, arrived_after}
use Rattle.ltm_loading.specs.Setting.{Setting}
use Rattle.ltm_loading.specs.NodeGroups.{group_count, node_group}
use Rattle.ltm_loading.specs.Pairs.{arrived_by}

-- what moves of a destination in the group at a place of the node's row; nothing does where nothing moves
abbrev pub moving : ℕ → Option Outputs → ℕ → ℕ → ℕ
moving destinations None place destination = 0
moving destinations (Some moves) place destination = slice_index moves.row (place * destinations + destination)

-- what arrives
abbrev pub arrives : Option Outputs → ℕ
arrives None = 0
arrives (Some moves) = arrived_after moves

-- the counts of a node at the end of a slot are those at its beginning and what moves
pub record GrowBy (s : Setting) (c : Counts) (u t : ℕ) (moves : Option Outputs) : Type 0 where
  pub groups : (i d : ℕ) → i < group_count s u → d < s.destinations → c (node_group s u i) d (t + 1) ≡ c (node_group s u i) d t + moving s.destinations moves i d
  pub arrived : arrived_by s c (s.own u) (t + 1) ≡ arrived_by s c (s.own u) t + arrives moves
