use Rattle.std.proofs.Common.{ℕ, ◌≡◌, ◌++◌}
use Rattle.ltm_curve.specs.Counts.{Counts}
use Rattle.ltm_units.specs.Texts.{texts_below}
use Rattle.ltm_loading.specs.Setting.{Setting}
use Rattle.ltm_flows.specs.Shown.{ShowsCounts}
use Rattle.ltm_report.specs.RowReports.{node_delays}
use Rattle.ltm_report.proofs.all_delays.push_nodes.Given as goal

abbrev pub invariant-loop-node : goal.invariant-loop-node
invariant-loop-node l =
    (s : Setting) (version : ℕ) (c : Counts) → ShowsCounts s version c l.loading → l.into.items ≡ l.fn.into.items ++ texts_below l.node (node_delays s c)
