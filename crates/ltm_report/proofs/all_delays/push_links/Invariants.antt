use Rattle.std.proofs.Common.{ℕ, ◌≡◌, ◌*◌, ◌^◌, ◌≤◌, ◌++◌}
use Rattle.ltm_curve.specs.Counts.{Counts}
use Rattle.ltm_units.specs.Sums.{sum_below}
use Rattle.ltm_units.specs.Texts.{texts_below}
use Rattle.ltm_loading.specs.Setting.{Setting}
use Rattle.ltm_flows.specs.Shown.{ShowsCounts}
use Rattle.ltm_times.specs.Delays.{queued_on}
use Rattle.ltm_report.specs.RowReports.{link_delays}
use Rattle.ltm_report.proofs.all_delays.push_links.Given as goal

abbrev pub invariant-loop-link : goal.invariant-loop-link
invariant-loop-link l = record {
  small : l.queued ≤ l.link * 2 ^ 112;
  text : (s : Setting) (version : ℕ) (c : Counts) → ShowsCounts s version c l.loading → l.into.items ≡ l.fn.into.items ++ texts_below l.link (link_delays s c);
  sum : (s : Setting) (version : ℕ) (c : Counts) → ShowsCounts s version c l.loading → l.queued ≡ sum_below l.link (queued_on s c);
}
