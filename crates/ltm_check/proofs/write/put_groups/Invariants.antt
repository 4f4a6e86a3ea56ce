use Rattle.std.proofs.Common.{◌≡◌, ◌≤◌, ◌++◌}
use Rattle.ltm_curve.specs.Table.{counts_of}
use Rattle.ltm_units.specs.Texts.{texts_below}
use Rattle.ltm_check.specs.Seen.{curves_of}
use Rattle.ltm_check.specs.Text.{group_text}
use Rattle.ltm_check.specs.Passing.{Passes}
use Rattle.ltm_check.proofs.write.put_groups.Given as goal

abbrev pub invariant-loop-group : goal.invariant-loop-group
invariant-loop-group g l =
    Passes (l.fn.waiting.items ++ texts_below l.group (group_text l.scenario (counts_of (curves_of l.fn.window)))) (g.W.Sink.written l.fn.output) (g.W.Sink.written l.output) l.waiting.items
    × (g.W.Sink.faults l.fn.output ≤ g.W.Sink.faults l.output)
    × (curves_of l.window ≡ curves_of l.fn.window)
