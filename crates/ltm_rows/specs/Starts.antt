-- Where the rows of each node begin within a slot.
use Rattle.std.specs.Prelude.{◌≡◌, ℕ, ◌+◌, ◌*◌, ◌<◌, ◌≤◌, List, length, slice_index}
use Rattle.ltm_node.specs.declared.shape.NodeShape.{NodeShape}
use Rattle.ltm_node.specs.Shape.{width, counts_begin}
use Rattle.ltm_inputs.specs.Setting.{Setting}
use Rattle.ltm_inputs.specs.Pairs.{shape_at}
use Rattle.ltm_rows.specs.declared.layout.Part.{Part}
use Rattle.ltm_rows.specs.declared.layout.Part.TheVariants.{All, Amounts, Weights}
use Rattle.ltm_units.specs.Bounds.{widest_row}

-- how many numbers a part of the inputs of a shape is: all that a pair reads; what its arms send, its supplies and its
-- capacities; its weights
abbrev pub part_width : Part → NodeShape → ℕ
part_width All shape = width shape
part_width Amounts shape = counts_begin shape + (shape.outs + shape.arms)
part_width Weights shape = shape.destinations * shape.outs

-- how many numbers a row of a node has
abbrev pub row_width : Setting → Part → ℕ → ℕ
row_width s part u = part_width part (shape_at s u)

-- the rows of each of the first nodes begin where those of the node before end
pub record AreStarts (s : Setting) (part : Part) (nodes : ℕ) (starts : List ℕ) : Type 0 where
  pub long : length starts ≡ nodes + 1
  pub steps : (u : ℕ) → u < nodes → slice_index starts (u + 1) ≡ slice_index starts u + row_width s part u
  pub small : slice_index starts nodes ≤ nodes * widest_row
