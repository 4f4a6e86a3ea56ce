use Rattle.std.proofs.Common.{◌≡◌, ℕ, ◌+◌, ◌*◌, ◌^◌, ◌≤◌}
use Rattle.ltm_units.specs.Sums.{sum_below}
use Rattle.ltm_curve.specs.Counts.{Counts}
use Rattle.ltm_loading.specs.Setting.{Setting}
use Rattle.ltm_flows.specs.Shown.{ShowsCounts}
use Rattle.ltm_times.specs.Queues.{waiting_at}
use Rattle.ltm_times.specs.Peaks.{IsPeakOf}
use Rattle.ltm_times.proofs.origins.origin_delay.Given as goal

abbrev pub invariant-loop-slot : goal.invariant-loop-slot
invariant-loop-slot l = record {
  small : l.waited ≤ l.slot * 2 ^ 64;
  waited : (s : Setting) (version : ℕ) (c : Counts) → ShowsCounts s version c l.loading →
      l.waited ≡ sum_below l.slot (λ t. waiting_at s c l.node.0 (t + 1));
  peak : (s : Setting) (version : ℕ) (c : Counts) → ShowsCounts s version c l.loading → IsPeakOf (waiting_at s c l.node.0) l.slot l.peak;
}
