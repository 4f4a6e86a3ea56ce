use Rattle.std.proofs.Common.{◌≡◌, ◌+◌, ◌-◌, ◌≤◌, length, drop}
use Rattle.ltm_io.specs.Script.{lines_of}
use Rattle.ltm_session_editors.proofs.cutting.line_count.Given as goal

abbrev pub invariant-loop-at : goal.invariant-loop-at
invariant-loop-at l = (l.count ≤ l.at) × (l.at ≤ length l.text + 1) × (l.count + length (lines_of (drop l.at l.text)) ≡ length (lines_of l.text))

abbrev pub decreases-loop-at : goal.decreases-loop-at
decreases-loop-at l = length l.text - l.at
