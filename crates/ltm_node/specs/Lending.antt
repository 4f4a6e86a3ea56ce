-- The room of a row is lent to be written in place.
use Rattle.std.specs.Prelude.{List, ℕ, ◌++◌, take, drop, length}
use Rattle.std.specs.Borrow.{Lends, MutBor, Fml, Array, u64}
use Rattle.ltm_node.specs.Shape.{width}
use Rattle.ltm_node.specs.Inputs.{Inputs}
use Rattle.ltm_node.specs.contracts.inputs.NodeInputs.{the_row}

-- inputs whose room begins with these numbers
abbrev pub with_numbers : Inputs → List ℕ → Inputs
with_numbers n numbers = record n { row = take (width n.shape) (numbers ++ drop (length numbers) n.row) }

-- the inputs end with the numbers that are left behind the reference
abbrev pub LendsNumbers : MutBor Inputs → MutBor (List ℕ) → Fml
LendsNumbers n numbers = Lends the_row (Array u64 0) n numbers (with_numbers n.now)
