use Rattle.std.specs.Prelude.{ℕ, ◌+◌, List, replicate, slice_index, slice_range}
use Rattle.ltm_node.specs.Shape.{width, sending_place, left_place, entered_place, arrived_place, supply_place, capacity_place, weights_place}
use Rattle.ltm_node.specs.declared.shape.NodeShape.{NodeShape}

-- the inputs of a pair of node and slot: the shape of the node, a row of numbers, and for how many
-- numbers there is room
pub record Inputs : Type 0 where
  pub shape : NodeShape
  pub row : List ℕ
  pub room : ℕ

-- inputs of a shape whose numbers are all 0
abbrev pub cleared_inputs : NodeShape → ℕ → Inputs
cleared_inputs shape room = record { shape = shape; row = replicate (width shape) 0; room = room }

-- what an arm sends to a destination
abbrev pub sending : Inputs → ℕ → ℕ → ℕ
sending n arm destination = slice_index n.row (sending_place n.shape arm destination)

-- what has left an arm for a destination
abbrev pub left : Inputs → ℕ → ℕ → ℕ
left n arm destination = slice_index n.row (left_place n.shape arm destination)

-- what has entered an out-link for a destination
abbrev pub entered : Inputs → ℕ → ℕ → ℕ
entered n out destination = slice_index n.row (entered_place n.shape out destination)

-- what has arrived at the node
abbrev pub arrived : Inputs → ℕ
arrived n = slice_index n.row (arrived_place n.shape)

-- what an out-link can take
abbrev pub supply : Inputs → ℕ → ℕ
supply n out = slice_index n.row (supply_place n.shape out)

-- the capacity of an arm
abbrev pub capacity : Inputs → ℕ → ℕ
capacity n arm = slice_index n.row (capacity_place n.shape arm)

-- the weight of an out-link for a destination
abbrev pub weight : Inputs → ℕ → ℕ → ℕ
weight n destination out = slice_index n.row (weights_place n.shape destination + out)

-- the weights of all out-links for a destination
abbrev pub weights : Inputs → ℕ → List ℕ
weights n destination =
    slice_range n.row (weights_place n.shape destination) (weights_place n.shape destination + n.shape.outs)
