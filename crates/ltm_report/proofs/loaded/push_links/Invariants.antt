use Rattle.std.proofs.Common.{◌≡◌, ◌++◌}
use Rattle.ltm_curve.specs.Counts.{Counts}
use Rattle.ltm_units.specs.Texts.{texts_below}
use Rattle.ltm_setting.specs.Setting.{setting_of}
use Rattle.ltm_flows.specs.Shown.{ShowsCounts}
use Rattle.ltm_report.specs.Reports.{link_report_of}
use Rattle.ltm_report.proofs.loaded.push_links.Given as goal

abbrev pub invariant-loop-link : goal.invariant-loop-link
invariant-loop-link l =
    (c : Counts) → ShowsCounts (setting_of l.scenario) 0 c l.loading → l.into.items ≡ l.fn.into.items ++ texts_below l.link (link_report_of l.scenario c)
