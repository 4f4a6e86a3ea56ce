use Rattle.std.proofs.Common.{◌≡◌, ◌+◌, ◌++◌, drop}
use Rattle.ltm_session_editors.specs.Lines.{call_lines}
use Rattle.ltm_session_editors.proofs.lines.calls_text.Given as goal

abbrev pub invariant-loop-call : goal.invariant-loop-call
invariant-loop-call l = record {
  number : l.place ≡ l.call-index + 1;
  written : l.text.items ++ call_lines l.place (drop l.call-index l.calls) ≡ call_lines 1 l.calls;
}
