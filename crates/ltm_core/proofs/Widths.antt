-- The widest row of all scenarios.
use Rattle.std.proofs.Common.{ℕ, ◌*◌, ◌≤◌, arith}
use Rattle.std.proofs.Math.Nat.{mul-le-mul_right, mul-le-mul_left}
use Rattle.ltm_units.specs.Bounds.{most_destinations, widest_row}
use Rattle.ltm_node.specs.Inputs.{Inputs}
use Rattle.ltm_node.specs.Solvable.{IsSolvable}
use Rattle.ltm_node.specs.Shape.{counts_width}

pub grown : (a b c d : ℕ) → a ≤ b → c ≤ d → a * c ≤ b * d
grown a b c d p q = let x : a * c ≤ b * c = mul-le-mul_right c p in let y : b * c ≤ b * d = mul-le-mul_left b q in omega arith

-- the counts of inputs that can be solved are fewer than the widest row
pub solvable_fits : (n : Inputs) (room : ℕ) → IsSolvable n → widest_row ≤ room → counts_width n.shape ≤ room
solvable_fits n room is wide =
    let a : n.shape.arms * n.shape.destinations ≤ 5 * most_destinations = grown n.shape.arms 5 n.shape.destinations most_destinations is.few_arms is.few_destinations in
    let b : n.shape.outs * n.shape.destinations ≤ 4 * most_destinations = grown n.shape.outs 4 n.shape.destinations most_destinations is.few_outs is.few_destinations in
    omega arith
