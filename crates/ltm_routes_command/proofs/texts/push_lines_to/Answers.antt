use Rattle.std.proofs.Common.{◌≡◌, ℕ, List, length, ap, subst, arith, ◌∙◌}
use Rattle.std.specs.Prelude.{All}
use Rattle.ltm_network.specs.Network.{NetworkData}
use Rattle.ltm_splits.specs.Rows.{SplitRow}
use Rattle.ltm_scenario.specs.Data.{ScenarioData}
use Rattle.ltm_routes.specs.Split.{lists_below, rows_from}
use Rattle.ltm_routes_command.specs.Lines.{line_of}
use Rattle.ltm_routes_command.specs.File.{IsNamed}
use Rattle.ltm_routes_command.proofs.Walk.{lines_added, all_more}
use Rattle.ltm_routes_command.proofs.texts.push_lines_to.Goals as goal

pub loop-node-preserved : goal.loop-node-preserved
loop-node-preserved c =
    let s : ScenarioData = c.args.scenario.now in
    let list : ℕ → List SplitRow = rows_from s c.args.destination c.args.routes.now in
    let node : ℕ = c.loop-node.node in
    record {
      text = lines_added (line_of c.args.lines s c.args.routes.now) list node _ _ _ c.loop-node.invariant.text c.in_ok-push_line.ensures.line;
      named = λ splits. all_more (IsNamed s.network s.destinations) list node (c.loop-node.invariant.named splits) (c.in_ok-push_line.ensures.named splits);
    }

pub returns-clause-lines : goal.returns-clause-lines
returns-clause-lines c =
    let s : ScenarioData = c.args.scenario.now in
    let list : ℕ → List SplitRow = rows_from s c.args.destination c.args.routes.now in
    let nodes : c.nodes-nodes.result ≡ length s.network.nodes = c.nodes-nodes.ensures.count ∙ ap (λ (n : NetworkData). length n.nodes) c.network.ensures in
    let end : c.loop-node.node ≡ length s.network.nodes = omega arith in
    rw end at c.loop-node.invariant.text

pub returns-clause-named : goal.returns-clause-named
returns-clause-named c = λ splits.
    let s : ScenarioData = c.args.scenario.now in
    let list : ℕ → List SplitRow = rows_from s c.args.destination c.args.routes.now in
    let nodes : c.nodes-nodes.result ≡ length s.network.nodes = c.nodes-nodes.ensures.count ∙ ap (λ (n : NetworkData). length n.nodes) c.network.ensures in
    let end : c.loop-node.node ≡ length s.network.nodes = omega arith in
    subst (λ n. All (IsNamed s.network s.destinations) (lists_below n list)) end (c.loop-node.invariant.named splits)
