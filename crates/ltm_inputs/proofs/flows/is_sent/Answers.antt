use Rattle.std.proofs.Common.{◌≡◌, ◌*◌, ◌≤◌, ℕ, List, length, ap, arith}
use Rattle.ltm_node.specs.declared.shape.NodeShape.{NodeShape}
use Rattle.ltm_node.specs.Inputs.{Inputs}
use Rattle.ltm_inputs.proofs.Idle.{sent_none, none_sent}
use Rattle.ltm_inputs.proofs.flows.is_sent.Goals as goal

pub returns : goal.returns
returns c =
    let n : Inputs = c.args.inputs.now in
    let xs : List ℕ = c.row.result.now in
    let long : n.shape.arms * n.shape.destinations ≤ length xs = omega (arith, c.row.ensures.width) in
    let sends : c.shape-shape.result.arms * c.shape-shape.result.destinations ≡ n.shape.arms * n.shape.destinations = ap (λ (z : NodeShape). z.arms * z.destinations) c.shape-shape.ensures in
    let told = rw sends at c.is_any_sent.ensures in
    (λ none. sent_none n xs c.row.ensures.row long (told.0 none), λ none. told.1 (none_sent n xs c.row.ensures.row long none))
