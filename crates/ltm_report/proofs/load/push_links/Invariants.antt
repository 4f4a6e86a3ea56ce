use Rattle.std.proofs.Common.{◌≡◌, ◌++◌}
use Rattle.ltm_curve.specs.Table.{counts_of}
use Rattle.ltm_units.specs.Texts.{texts_below}
use Rattle.ltm_report.specs.Reports.{link_report_of}
use Rattle.ltm_report.proofs.load.push_links.Given as goal

abbrev pub invariant-loop-link : goal.invariant-loop-link
invariant-loop-link l = l.into.items ≡ l.fn.into.items ++ texts_below l.link (link_report_of l.scenario (counts_of l.curves))
