use Rattle.std.proofs.Common.{◌≡◌, ◌+◌, drop, length}
use Rattle.std.specs.Prelude.{All}
use Rattle.ltm_scenario.specs.Edits.{HaveAmounts}
use Rattle.ltm_session_editors.specs.Each.{each_from}
use Rattle.ltm_session_editors.specs.Scripts.{script_of}
use Rattle.ltm_session_editors.proofs.Each.{joined}
use Rattle.ltm_session_editors.proofs.reading.read_scripts.Given as goal

abbrev pub invariant-loop-text : goal.invariant-loop-text
invariant-loop-text l = record {
  number : l.editor ≡ l.text-index + 1;
  count : length l.scripts.items ≡ l.text-index;
  amounts : All (All HaveAmounts) l.scripts.items;
  given : joined l.scripts.items (each_from script_of l.editor (drop l.text-index l.texts)) ≡ each_from script_of 1 l.texts;
}
