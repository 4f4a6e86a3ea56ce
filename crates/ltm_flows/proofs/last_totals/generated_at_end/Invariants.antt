use Rattle.std.proofs.Common.{◌≡◌, ◌≤◌}
use Rattle.ltm_units.specs.Bounds.{most_produced}
use Rattle.ltm_units.specs.Sums.{sum_below}
use Rattle.ltm_curve.specs.Counts.{total}
use Rattle.ltm_setting.specs.Setting.{setting_of}
use Rattle.ltm_flows.proofs.last_totals.generated_at_end.Given as goal

abbrev pub invariant-loop-node : goal.invariant-loop-node
invariant-loop-node l = record {
  sum : l.sum ≡ sum_below l.node (λ u. total (setting_of l.scenario).destinations ((setting_of l.scenario).produced u) (setting_of l.scenario).slots);
  small : l.sum ≤ most_produced;
}
