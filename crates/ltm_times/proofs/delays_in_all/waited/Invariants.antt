use Rattle.std.proofs.Common.{◌≡◌, ℕ, ◌+◌, ◌*◌, ◌^◌, ◌≤◌}
use Rattle.ltm_units.specs.Sums.{sum_below}
use Rattle.ltm_curve.specs.Counts.{Counts}
use Rattle.ltm_loading.specs.Setting.{Setting}
use Rattle.ltm_flows.specs.Shown.{ShowsCounts}
use Rattle.ltm_loading.specs.Totals.{waiting}
use Rattle.ltm_times.proofs.delays_in_all.waited.Given as goal

abbrev pub invariant-loop-slot : goal.invariant-loop-slot
invariant-loop-slot l = record {
  small : l.sum ≤ l.slot * 2 ^ 64;
  sum : (s : Setting) (version : ℕ) (c : Counts) → ShowsCounts s version c l.loading → l.sum ≡ sum_below l.slot (λ t. waiting s c (t + 1));
}
