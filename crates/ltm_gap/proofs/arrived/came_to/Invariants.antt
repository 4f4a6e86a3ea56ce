use Rattle.std.proofs.Common.{◌≡◌, ◌≤◌, ◌*◌}
use Rattle.ltm_units.specs.Sums.{sum_below}
use Rattle.ltm_curve.specs.Totals.{most_total}
use Rattle.ltm_setting.specs.Setting.{setting_of}
use Rattle.ltm_flows.specs.Counted.{left_by}
use Rattle.ltm_gap.proofs.arrived.came_to.Given as goal

abbrev pub invariant-loop-place : goal.invariant-loop-place
invariant-loop-place l = record {
  sum : l.sum ≡ sum_below l.place (λ i. left_by l.loading ((setting_of l.scenario).in_link l.node.0 i) l.boundary);
  small : l.sum ≤ l.place * most_total;
}
