-- What is read of the links of a pair alone.
use Rattle.std.specs.Prelude.{◌≡◌, ℕ, ◌++◌, length, take, slice_range}
use Rattle.ltm_curve.specs.Counts.{Counts}
use Rattle.ltm_node.specs.Inputs.{Inputs}
use Rattle.ltm_node.specs.Shape.{width, counts_begin, supplies_begin, weights_begin}
use Rattle.ltm_loading.specs.Setting.{Setting}
use Rattle.ltm_loading.specs.Pairs.{shape_at}
use Rattle.ltm_inputs.specs.Parts.{sending_part, supply_part, capacity_part}

-- what is read of the links of a pair: what its arms send, its supplies and its capacities; the counts and the weights are
-- not told
pub record ReadsFlows (s : Setting) (c : Counts) (u t : ℕ) (n : Inputs) : Type 0 where
  pub shape : n.shape ≡ shape_at s u
  pub width : length n.row ≡ width n.shape
  pub sends : take (counts_begin n.shape) n.row ≡ sending_part s c u t
  pub limits : slice_range n.row (supplies_begin n.shape) (weights_begin n.shape) ≡
      supply_part s c u t ++ capacity_part s u t
