use Rattle.std.proofs.Common.{◌≡◌, ◌-◌, length}
use Rattle.ltm_search.specs.Arrivals.{arrivals_of}
use Rattle.ltm_setting.specs.Setting.{setting_of}
use Rattle.ltm_gap.specs.Steps.{IsBetween}
use Rattle.ltm_gap.proofs.cutting.cut_within.Given as goal

abbrev pub invariant-loop-low : goal.invariant-loop-low
invariant-loop-low l = record {
  long : length (arrivals_of l.search) ≡ (setting_of l.scenario).nodes;
  between : IsBetween (setting_of l.scenario) l.loading l.made.origin.0 l.made.slot l.node.0 l.last l.low l.high;
}

abbrev pub decreases-loop-low : goal.decreases-loop-low
decreases-loop-low l = l.high - l.low
