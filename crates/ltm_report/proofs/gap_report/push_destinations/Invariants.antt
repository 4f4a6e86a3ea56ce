use Rattle.std.proofs.Common.{◌≡◌, ◌++◌}
use Rattle.ltm_curve.specs.Counts.{Counts}
use Rattle.ltm_units.specs.Texts.{texts_below}
use Rattle.ltm_setting.specs.Setting.{setting_of}
use Rattle.ltm_flows.specs.Shown.{ShowsCounts}
use Rattle.ltm_report.specs.GapReports.{gap_to_of}
use Rattle.ltm_report.proofs.gap_report.push_destinations.Given as goal

abbrev pub invariant-loop-destination : goal.invariant-loop-destination
invariant-loop-destination l =
    (c : Counts) → ShowsCounts (setting_of l.scenario) 0 c l.loading → l.into.items ≡ l.fn.into.items ++ texts_below l.destination (gap_to_of l.scenario c)
