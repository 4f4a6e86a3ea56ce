use Rattle.std.proofs.Common.{◌≡◌, ℕ, ◌*◌, ◌≤◌}
use Rattle.ltm_units.specs.Sums.{sum_below}
use Rattle.ltm_curve.specs.Totals.{most_total}
use Rattle.ltm_curve.specs.Counts.{Counts}
use Rattle.ltm_loading.specs.Setting.{Setting}
use Rattle.ltm_flows.specs.Shown.{ShowsCounts}
use Rattle.ltm_times.specs.Queues.{queue}
use Rattle.ltm_times.proofs.delays_in_all.in_queues.Given as goal

abbrev pub invariant-loop-link : goal.invariant-loop-link
invariant-loop-link l = record {
  small : l.sum ≤ l.link * most_total;
  sum : (s : Setting) (version : ℕ) (c : Counts) → ShowsCounts s version c l.loading →
      l.sum ≡ sum_below l.link (λ link. queue s c link l.boundary);
}
