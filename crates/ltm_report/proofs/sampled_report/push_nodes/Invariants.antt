use Rattle.std.proofs.Common.{◌≡◌, ◌++◌}
use Rattle.ltm_curve.specs.Counts.{Counts}
use Rattle.ltm_units.specs.Texts.{texts_below}
use Rattle.ltm_setting.specs.Setting.{setting_of}
use Rattle.ltm_flows.specs.Shown.{ShowsCounts}
use Rattle.ltm_report.specs.Sampled.{departed_of}
use Rattle.ltm_report.proofs.sampled_report.push_nodes.Given as goal

abbrev pub invariant-loop-node : goal.invariant-loop-node
invariant-loop-node l =
    (c : Counts) → ShowsCounts (setting_of l.scenario) 0 c l.loading → l.into.items ≡ l.fn.into.items ++ texts_below l.node (departed_of l.every l.scenario c)
