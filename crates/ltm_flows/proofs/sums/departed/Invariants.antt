use Rattle.std.proofs.Common.{◌≡◌, ◌≤◌, ◌+◌, ◌*◌}
use Rattle.ltm_units.specs.Sums.{sum_below}
use Rattle.ltm_curve.specs.Totals.{most_total}
use Rattle.ltm_flows.proofs.sums.departed.Given as goal

abbrev pub invariant-loop-node : goal.invariant-loop-node
invariant-loop-node g l = record {
  sum : l.sum ≡ sum_below l.node (λ u. g.T.GroupTotals.totals l.totals (2 * l.links + u) l.boundary);
  small : l.sum ≤ l.node * most_total;
}
