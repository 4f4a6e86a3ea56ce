use Rattle.std.specs.Prelude.{◌≡◌, ℕ, ◌+◌, ◌<◌, ◌≤◌, List, length, slice_index}
use Rattle.ltm_node.specs.Shape.{counts_width}
use Rattle.ltm_node.specs.Inputs.{Inputs, left, entered, arrived}
use Rattle.ltm_node.specs.Outputs.{Outputs, left_after_place, entered_after_place, arrived_after_place}
use Rattle.ltm_node.specs.Step.{gone}
use Rattle.ltm_node.specs.declared.shape.NodeShape.{NodeShape}

-- more than what any narrow node moves in a slot
abbrev pub most_moved : ℕ
most_moved = 320000

-- a node with at most one out-link, in a case with one destination
pub record IsNarrow (s : NodeShape) : Type 0 where
  pub few_outs : s.outs ≤ 1
  pub one_destination : s.destinations ≡ 1

-- the share of each arm is 1
abbrev pub whole : ℕ → ℕ
whole arm = 1

-- what an arm moves to the one destination where its share is 1
abbrev pub leaves : Inputs → ℕ → ℕ
leaves n arm = gone n 1 whole arm 0

-- a row of counts as the counts of a node of this shape
abbrev pub laid : NodeShape → List ℕ → Outputs
laid shape row = record { shape = shape; row = row; room = length row }

-- the counts of the first arms are those at the next boundary, at shares of 1
pub record HaveLeft (n : Inputs) (first : ℕ) (o : Outputs) : Type 0 where
  pub shape : o.shape ≡ n.shape
  pub width : length o.row ≡ counts_width n.shape
  pub left : (arm : ℕ) → arm < first → slice_index o.row (left_after_place n.shape arm 0) ≡ left n arm 0 + leaves n arm

-- the same of all arms, and what enters the out-link and what arrives are these amounts
pub record HaveMoved (n : Inputs) (entering arriving : ℕ) (o : Outputs) : Type 0 where
  pub arms : HaveLeft n n.shape.arms o
  pub entered : 0 < n.shape.outs → slice_index o.row (entered_after_place n.shape 0 0) ≡ entered n 0 0 + entering
  pub arrived : slice_index o.row (arrived_after_place n.shape) ≡ arrived n + arriving

-- the counts of a node with one arm and one out-link, where this amount moves
pub record HaveShifted (n : Inputs) (amount : ℕ) (o : Outputs) : Type 0 where
  pub shape : o.shape ≡ n.shape
  pub width : length o.row ≡ counts_width n.shape
  pub left : slice_index o.row (left_after_place n.shape 0 0) ≡ left n 0 0 + amount
  pub entered : slice_index o.row (entered_after_place n.shape 0 0) ≡ entered n 0 0 + amount
  pub arrived : slice_index o.row (arrived_after_place n.shape) ≡ arrived n
