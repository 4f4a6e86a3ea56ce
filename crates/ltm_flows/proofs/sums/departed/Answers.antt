use Rattle.std.proofs.Common.{◌∙◌, ◌≡◌, ◌+◌, ◌*◌, ℕ, arith, ap}
use Rattle.ltm_units.proofs.Sums.{sum_below_more}
use Rattle.ltm_flows.proofs.sums.departed.Goals as goal

pub loop-node-preserved : goal.loop-node-preserved
loop-node-preserved g c =
    let total : ℕ → ℕ = λ i. g.T.GroupTotals.totals c.args.totals.now i c.args.boundary in
    let node : ℕ = c.loop-node.node in
    let left : c.group_total-sum.result ≡ total (2 * c.args.links + node) = c.group_total-sum.ensures.total ∙ ap total c.dep_behind.ensures in
    record {
      sum = omega (arith, sum_below_more (λ u. total (2 * c.args.links + u)) node, left, c.loop-node.invariant.sum);
      small = omega (arith, c.group_total-sum.ensures.small, c.loop-node.invariant.small);
    }
