-- What is kept of a pair, in three parts.
use Rattle.std.specs.Prelude.{ℕ, ◌^◌, ◌<◌, List, ◌++◌, length, slice_index, take, drop}
use Rattle.ltm_node.specs.declared.shape.NodeShape.{NodeShape}
use Rattle.ltm_node.specs.Shape.{counts_begin, supplies_begin}
use Rattle.ltm_rows.specs.declared.parts.Parts.{Parts}

-- the parts one behind the other
abbrev pub row_of_parts : Parts → List ℕ
row_of_parts p = p.sends.now ++ (p.limits.now ++ p.weights.now)

-- what the arms send and the limits
abbrev pub amounts_in : Parts → List ℕ
amounts_in p = p.sends.now ++ p.limits.now

-- a row of inputs without its counts
abbrev pub without_counts : NodeShape → List ℕ → List ℕ
without_counts shape row = take (counts_begin shape) row ++ drop (supplies_begin shape) row

-- each amount fits 16 bits, and each weight 32
pub record AreNarrow (p : Parts) : Type 0 where
  pub sends : (i : ℕ) → i < length p.sends.now → slice_index p.sends.now i < 2 ^ 16
  pub limits : (i : ℕ) → i < length p.limits.now → slice_index p.limits.now i < 2 ^ 16
  pub weights : (i : ℕ) → i < length p.weights.now → slice_index p.weights.now i < 2 ^ 32
