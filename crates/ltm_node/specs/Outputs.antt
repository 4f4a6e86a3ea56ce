use Rattle.std.specs.Prelude.{ℕ, ◌+◌, ◌*◌, List, replicate, slice_index}
use Rattle.ltm_node.specs.Shape.{counts_width}
use Rattle.ltm_node.specs.declared.shape.NodeShape.{NodeShape}

-- the counts at the next boundary: the shape of the node, a row of counts, and for how many numbers
-- there is room
pub record Outputs : Type 0 where
  pub shape : NodeShape
  pub row : List ℕ
  pub room : ℕ

-- outputs of a shape whose counts are all 0
abbrev pub cleared_outputs : NodeShape → ℕ → Outputs
cleared_outputs shape room = record { shape = shape; row = replicate (counts_width shape) 0; room = room }

-- where the count that has left an arm for a destination stands in the row of the outputs
abbrev pub left_after_place : NodeShape → ℕ → ℕ → ℕ
left_after_place s arm destination = arm * s.destinations + destination

-- where the count that has entered an out-link for a destination stands
abbrev pub entered_after_place : NodeShape → ℕ → ℕ → ℕ
entered_after_place s out destination = s.arms * s.destinations + (out * s.destinations + destination)

-- where the count that has arrived stands
abbrev pub arrived_after_place : NodeShape → ℕ
arrived_after_place s = s.arms * s.destinations + s.outs * s.destinations

-- what has left an arm for a destination by the next boundary
abbrev pub left_after : Outputs → ℕ → ℕ → ℕ
left_after o arm destination = slice_index o.row (left_after_place o.shape arm destination)

-- what has entered an out-link for a destination by the next boundary
abbrev pub entered_after : Outputs → ℕ → ℕ → ℕ
entered_after o out destination = slice_index o.row (entered_after_place o.shape out destination)

-- what has arrived at the node by the next boundary
abbrev pub arrived_after : Outputs → ℕ
arrived_after o = slice_index o.row (arrived_after_place o.shape)
