use Rattle.std.proofs.Common.{arith}
use Rattle.ltm_scenario.specs.Data.{ScenarioData}
use Rattle.ltm_scenario.specs.Cells.{width}
use Rattle.ltm_scenario.specs.Parts.{scenario_in}
use Rattle.ltm_scenario.proofs.Ranges.{sum_more}
use Rattle.ltm_scenario.proofs.parts.Parts.widths.Goals as goal

pub overflow_add-widths : goal.overflow_add-widths
overflow_add-widths c = omega (arith, c.nodes-node-end.ensures.network.few_nodes, c.nodes-node-end.ensures.network.few_links, c.loop-node.invariant.small, c.width-widths.ensures.small, c.nodes-node-end.ensures.count)

pub loop-node-preserved : goal.loop-node-preserved
loop-node-preserved c =
    let s : ScenarioData = (scenario_in c.args.self.now) in
    record {
      sum = omega (arith, c.loop-node.invariant.sum, c.width-widths.ensures.value, sum_more (width s) c.loop-node.node);
      small = omega (arith, c.loop-node.invariant.small, c.width-widths.ensures.small);
    }
