use Rattle.std.proofs.Common.{◌≡◌, ◌≤◌, ◌*◌, ◌-◌}
use Rattle.ltm_units.specs.Sums.{sum_below}
use Rattle.ltm_curve.specs.Totals.{most_total}
use Rattle.ltm_loading.specs.Groups.{up_of, down_of}
use Rattle.ltm_flows.proofs.sums.on_links.Given as goal

abbrev pub invariant-loop-link : goal.invariant-loop-link
invariant-loop-link g l = record {
  sum : l.sum ≡ sum_below l.link (λ i. g.T.GroupTotals.totals l.totals (up_of i) l.boundary - g.T.GroupTotals.totals l.totals (down_of i) l.boundary);
  small : l.sum ≤ l.link * most_total;
}
