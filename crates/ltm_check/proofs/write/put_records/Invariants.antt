use Rattle.std.proofs.Common.{◌≤◌, ◌++◌}
use Rattle.ltm_curve.specs.Table.{counts_of}
use Rattle.ltm_units.specs.Texts.{texts_below}
use Rattle.ltm_check.specs.Seen.{curves_of}
use Rattle.ltm_check.specs.Text.{record_text}
use Rattle.ltm_check.specs.Passing.{Passes}
use Rattle.ltm_check.proofs.write.put_records.Given as goal

abbrev pub invariant-loop-destination : goal.invariant-loop-destination
invariant-loop-destination g l =
    Passes (l.fn.waiting.items ++ texts_below l.destination (record_text l.scenario (counts_of (curves_of l.window)) l.group)) (g.W.Sink.written l.fn.output) (g.W.Sink.written l.output) l.waiting.items
    × (g.W.Sink.faults l.fn.output ≤ g.W.Sink.faults l.output)
