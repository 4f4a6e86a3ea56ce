-- Room for the step of a node.
use Rattle.std.specs.Prelude.{◌≡◌, ℕ, ◌≤◌, None, length}
use Rattle.ltm_node.specs.Shape.{width, counts_width}
use Rattle.ltm_loading.specs.Setting.{Setting}
use Rattle.ltm_used.specs.Lists.{list_of}
use Rattle.ltm_lean_node.specs.Rows.{listed_shape}
use Rattle.ltm_lean.specs.declared.room.NodeRoom.{NodeRoom}
use Rattle.ltm_lean.specs.declared.tables.Tables.{Tables}

-- room for so many numbers
pub record IsWide (many : ℕ) (room : NodeRoom) : Type 0 where
  pub takes : many ≤ length room.takes.items
  pub row : many ≤ length room.row.items
  pub inputs : many ≤ room.inputs.room
  pub outputs : many ≤ room.outputs.room

-- how many numbers the row of a node has for its list, and how many counts its step gives
abbrev pub row_width : Setting → Tables → ℕ → ℕ
row_width s x u = width (listed_shape s u (length (list_of x.nodes u)) None)

abbrev pub step_width : Setting → Tables → ℕ → ℕ
step_width s x u = counts_width (listed_shape s u (length (list_of x.nodes u)) None)

-- room for a node
pub record HasRoomFor (s : Setting) (x : Tables) (u : ℕ) (room : NodeRoom) : Type 0 where
  pub takes : s.outs u ≤ length room.takes.items
  pub row : row_width s x u ≤ length room.row.items
  pub inputs : row_width s x u ≤ room.inputs.room
  pub outputs : step_width s x u ≤ room.outputs.room

-- the same room, with other numbers
pub record SameRoom (old new : NodeRoom) : Type 0 where
  pub takes : length new.takes.items ≡ length old.takes.items
  pub row : length new.row.items ≡ length old.row.items
  pub inputs : new.inputs.room ≡ old.inputs.room
  pub outputs : new.outputs.room ≡ old.outputs.room
