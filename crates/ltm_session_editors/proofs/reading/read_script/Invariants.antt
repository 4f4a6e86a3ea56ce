use Rattle.std.proofs.Common.{◌≡◌, ◌+◌, ◌-◌, ◌≤◌, drop, length}
use Rattle.std.specs.Prelude.{All}
use Rattle.ltm_io.specs.Script.{lines_of}
use Rattle.ltm_scenario.specs.Edits.{HaveAmounts}
use Rattle.ltm_session_editors.specs.Each.{each_from}
use Rattle.ltm_session_editors.specs.Scripts.{batch_at}
use Rattle.ltm_session_editors.proofs.Each.{joined}
use Rattle.ltm_session_editors.proofs.reading.read_script.Given as goal

abbrev pub invariant-loop-at : goal.invariant-loop-at
invariant-loop-at l = record {
  number : l.line ≤ l.at + 1;
  within : l.at ≤ length l.text + 1;
  amounts : All HaveAmounts l.batches.items;
  given : joined l.batches.items (each_from (batch_at l.editor) l.line (lines_of (drop l.at l.text))) ≡ each_from (batch_at l.editor) 1 (lines_of l.text);
}

abbrev pub decreases-loop-at : goal.decreases-loop-at
decreases-loop-at l = length l.text - l.at
