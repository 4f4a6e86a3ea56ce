use Rattle.std.proofs.Common.{◌≡◌, ◌≤◌, ◌+◌, ◌-◌, ◌*◌, ◌^◌, ℕ}
use Rattle.ltm_units.specs.Sums.{sum_below}
use Rattle.ltm_curve.specs.Counts.{Counts}
use Rattle.ltm_loading.specs.Groups.{arr_of}
use Rattle.ltm_setting.specs.Setting.{setting_of}
use Rattle.ltm_flows.specs.Shown.{ShowsCounts}
use Rattle.ltm_gap.proofs.finding.spent_to.Given as goal

abbrev pub invariant-loop-slot : goal.invariant-loop-slot
invariant-loop-slot l = record {
  sum : (version : ℕ) (c : Counts) → ShowsCounts (setting_of l.scenario) version c l.loading
      → l.sum ≡ sum_below l.slot (λ t. sum_below (setting_of l.scenario).nodes (λ origin. (setting_of l.scenario).produced origin l.destination (t + 1)) - c (arr_of (setting_of l.scenario)) l.destination (t + 1));
  small : l.sum ≤ l.slot * 2 ^ 64;
}
