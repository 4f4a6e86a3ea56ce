-- Inputs as the node step reads them: as they are, or where nothing has been counted.
use Rattle.std.specs.Prelude.{ℕ, Bool, if◌then◌else◌, List}
use Rattle.ltm_node.specs.Inputs.{Inputs}
use Rattle.ltm_node.specs.Uncounted.{with_no_counts}
use Rattle.ltm_node.specs.declared.shape.NodeShape.{NodeShape}

-- a row of inputs as it is, or with 0 in place of each count
abbrev pub row_as : Bool → NodeShape → List ℕ → List ℕ
row_as counted shape row = if counted then row else with_no_counts shape row

-- these inputs as they are, or where nothing has been counted
abbrev pub read_as : Bool → Inputs → Inputs
read_as counted n = record n { row = row_as counted n.shape n.row }

-- a number where it is counted, else 0
abbrev pub count_as : Bool → ℕ → ℕ
count_as counted number = if counted then number else 0
