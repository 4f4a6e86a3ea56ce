-- The counts of a group fit the row.
use Rattle.std.proofs.Common.{ℕ, ◌+◌, ◌*◌, ◌<◌, ◌≤◌, arith}
use Rattle.std.proofs.Math.Nat.{add-mul, mul-le-mul_right}
use Rattle.ltm_node.specs.declared.shape.NodeShape.{NodeShape}
use Rattle.ltm_node.specs.Shape.{counts_width}

pub group_within : (s : NodeShape) (place : ℕ) → place < s.arms + s.outs → place * s.destinations + s.destinations < counts_width s
group_within s place l =
    let more : (place + 1) * s.destinations ≤ (s.arms + s.outs) * s.destinations = mul-le-mul_right s.destinations (omega arith) in
    omega (arith, more, add-mul place 1 s.destinations, add-mul s.arms s.outs s.destinations)
