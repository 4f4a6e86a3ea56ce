-- Inputs where nothing has been counted.
use Rattle.std.specs.Prelude.{ℕ, List, ◌++◌, take, drop, replicate}
use Rattle.ltm_node.specs.Shape.{counts_begin, counts_width, supplies_begin}
use Rattle.ltm_node.specs.Inputs.{Inputs}
use Rattle.ltm_node.specs.declared.shape.NodeShape.{NodeShape}

-- a row of inputs with 0 in place of each count
unfoldable pub with_no_counts : NodeShape → List ℕ → List ℕ
with_no_counts shape row = take (counts_begin shape) row ++ (replicate (counts_width shape) 0 ++ drop (supplies_begin shape) row)

-- these inputs where nothing has been counted
abbrev pub uncounted : Inputs → Inputs
uncounted n = record n { row = with_no_counts n.shape n.row }
