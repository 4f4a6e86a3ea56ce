use Rattle.std.proofs.Common.{◌≡◌, ◌≤◌}
use Rattle.ltm_units.specs.Bounds.{most_produced}
use Rattle.ltm_units.specs.Sums.{sum_below}
use Rattle.ltm_setting.specs.Setting.{setting_of}
use Rattle.ltm_gap.proofs.finding.produced_to.Given as goal

abbrev pub invariant-loop-origin : goal.invariant-loop-origin
invariant-loop-origin l = record {
  sum : l.sum ≡ sum_below l.origin (λ origin. (setting_of l.scenario).produced origin l.destination l.boundary);
  small : l.sum ≤ most_produced;
}
