use Rattle.std.proofs.Common.{ℕ, ◌≡◌, ◌++◌, ◌∙◌, ap, arith}
use Rattle.ltm_units.specs.Texts.{texts_below}
use Rattle.ltm_report.specs.RowReports.{node_delays}
use Rattle.ltm_report.proofs.Rowed.{one_text_more}
use Rattle.ltm_report.proofs.all_delays.push_nodes.Goals as goal

pub loop-node-preserved : goal.loop-node-preserved
loop-node-preserved c s version counts shows =
    one_text_more c.loop-node.node (node_delays s counts) _ _ _ (c.loop-node.invariant s version counts shows) (c.in_ok-push_node.ensures s version counts shows)

pub returns : goal.returns
returns c s version counts shows =
    let all : c.loop-node.node ≡ c.nodes-node-end.result = omega arith in
    c.loop-node.invariant s version counts shows
    ∙ ap (λ (n : ℕ). c.args.into.now.items ++ texts_below n (node_delays s counts)) (all ∙ c.nodes-node-end.ensures)
