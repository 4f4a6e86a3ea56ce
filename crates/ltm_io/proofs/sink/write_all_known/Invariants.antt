use Rattle.std.proofs.Common.{length, take, ◌-◌, ◌≡◌, ◌≤◌}
use Rattle.ltm_io.specs.Sink.{appended}
use Rattle.ltm_io.proofs.sink.write_all_known.Given as goal

abbrev pub invariant-loop-at : goal.invariant-loop-at
invariant-loop-at g l = (l.at ≤ length l.bytes) × (g.W.Sink.written l.sink ≡ appended (take l.at l.bytes) (g.W.Sink.written l.initial.sink)) × (g.W.Sink.faults l.initial.sink ≤ g.W.Sink.faults l.sink)

abbrev pub decreases-loop-at : goal.decreases-loop-at
decreases-loop-at g l = length l.bytes - l.at
