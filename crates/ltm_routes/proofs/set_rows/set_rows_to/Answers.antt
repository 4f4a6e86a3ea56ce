use Rattle.std.proofs.Common.{◌≡◌, ◌<◌, ◌≤◌, length, Err, ap, subst, ◌∙◌}
use Rattle.ltm_network.specs.Network.{NetworkData}
use Rattle.ltm_routes.proofs.Placed.{routes_still, node_set, node_over, nodes_set}
use Rattle.ltm_routes.proofs.set_rows.set_rows_to.Goals as goal

pub set_row-requires-clause-routes : goal.set_row-requires-clause-routes
set_row-requires-clause-routes c = routes_still c.args.scenario.now c.loop-node.scenario c.args.destination c.args.routes.now c.loop-node.invariant.rest c.requires.routes

pub returns-in-Err-TooManyRows-clause-too_many : goal.returns-in-Err-TooManyRows-clause-too_many
returns-in-Err-TooManyRows-clause-too_many c = λ e.
    let nodes : c.nodes-nodes.result ≡ length c.args.scenario.now.network.nodes = c.nodes-nodes.ensures.count ∙ ap (λ (n : NetworkData). length n.nodes) c.network.ensures in
    node_over c.args.scenario.now c.loop-node.scenario c.args.destination c.loop-node.node (length c.args.scenario.now.network.nodes) c.args.routes.now c.loop-node.invariant
    (subst (λ n. c.loop-node.node < n) nodes c.loop-node-test.true) (c.in-Err-TooManyRows.ensures.too_many (ap Err c.in-Err-TooManyRows.field-0-is))

pub loop-node-preserved : goal.loop-node-preserved
loop-node-preserved c = node_set c.args.scenario.now c.loop-node.scenario c.set_row.new.scenario c.args.destination c.loop-node.node c.args.routes.now c.loop-node.invariant c.in-Ok.ensures.ok

pub returns-clause-ok : goal.returns-clause-ok
returns-clause-ok c =
    let nodes : c.nodes-nodes.result ≡ length c.args.scenario.now.network.nodes = c.nodes-nodes.ensures.count ∙ ap (λ (n : NetworkData). length n.nodes) c.network.ensures in
    nodes_set c.args.scenario.now c.loop-node.scenario c.args.destination c.loop-node.node (length c.args.scenario.now.network.nodes) c.args.routes.now c.loop-node.invariant
    (subst (λ n. c.loop-node.node ≤ n) nodes c.loop-node.auto.node-end) (subst (λ n. n ≤ c.loop-node.node) nodes c.loop-node-test.false)
