-- Where the rows of pairs of node and slot lie among the numbers of a table: those of one slot side by side, node after node.
use Rattle.std.specs.Prelude.{◌≡◌, ℕ, ◌+◌, ◌-◌, ◌*◌, ◌<◌, List, length, slice_index, slice_range}
use Rattle.ltm_inputs.specs.Setting.{Setting}
use Rattle.ltm_rows.specs.declared.layout.Part.{Part}
use Rattle.ltm_rows.specs.declared.layout.Layout.{Layout}
use Rattle.ltm_rows.specs.Starts.{row_width}

-- how many numbers the rows of a slot have in all
abbrev pub slot_width : Layout → ℕ
slot_width p = slice_index p.starts.items (length p.starts.items - 1)

-- for how many nodes there are rows
abbrev pub nodes_in : Layout → ℕ
nodes_in p = length p.starts.items - 1

-- how many numbers a row of the node has
abbrev pub width_in : Layout → ℕ → ℕ
width_in p u = slice_index p.starts.items (u + 1) - slice_index p.starts.items u

-- where the row of a pair begins
abbrev pub start_in : Layout → ℕ → ℕ → ℕ
start_in p u t = t * slot_width p + slice_index p.starts.items u

-- the row of a pair
unfoldable pub row_in : Layout → List ℕ → ℕ → ℕ → List ℕ
row_in p numbers u t = slice_range numbers (start_in p u t) (start_in p u t + width_in p u)

-- a row of each node, as wide as a part of its inputs
pub record LiesAs (s : Setting) (part : Part) (p : Layout) : Type 0 where
  pub nodes : nodes_in p ≡ s.nodes
  pub widths : (u : ℕ) → u < s.nodes → width_in p u ≡ row_width s part u
