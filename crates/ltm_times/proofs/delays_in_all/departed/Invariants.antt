use Rattle.std.proofs.Common.{◌≡◌, ℕ, ◌*◌, ◌≤◌}
use Rattle.ltm_units.specs.Sums.{sum_below}
use Rattle.ltm_curve.specs.Totals.{most_total}
use Rattle.ltm_curve.specs.Counts.{Counts, total}
use Rattle.ltm_loading.specs.Setting.{Setting}
use Rattle.ltm_loading.specs.Groups.{dep_of}
use Rattle.ltm_flows.specs.Shown.{ShowsCounts}
use Rattle.ltm_times.proofs.delays_in_all.departed.Given as goal

abbrev pub invariant-loop-node : goal.invariant-loop-node
invariant-loop-node l = record {
  small : l.sum ≤ l.node * most_total;
  sum : (s : Setting) (version : ℕ) (c : Counts) → ShowsCounts s version c l.loading →
      l.sum ≡ sum_below l.node (λ node. total s.destinations (c (dep_of s node)) l.boundary);
}
