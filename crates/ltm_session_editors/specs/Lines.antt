-- The lines that editors write.
use Rattle.std.specs.Prelude.{ℕ, ◌+◌, List, [], ◌∷◌, ◌++◌, codes}
use Rattle.ltm_editors.specs.declared.call.Call.{Call}
use Rattle.ltm_editors.specs.declared.call.Verdict.{Verdict}
use Rattle.ltm_editors.specs.declared.call.Verdict.TheVariants.{Accepted, Refused}
use Rattle.ltm_session_editors.specs.declared.fault.LineCause.{LineCause}
use Rattle.ltm_session_editors.specs.declared.fault.LineCause.TheVariants.{NotJson, NotCommand, NotEdit}
use Rattle.ltm_units.specs.Texts.{number_piece}
use Rattle.ltm_report.specs.Pieces.{newline}
use Rattle.ltm_report.specs.Answers.{accepted_line}
use Rattle.ltm_report.specs.EditFaults.{edit_fault_line}

-- the place of a call in the history, and whose it is
unfoldable pub place_piece : ℕ → ℕ → List ℕ
place_piece place editor = number_piece (codes "call ") place ++ number_piece (codes " editor ") editor ++ codes " "

-- what it was answered
abbrev pub verdict_line : Verdict → List ℕ
verdict_line (Accepted version) = accepted_line version
verdict_line (Refused fault) = edit_fault_line fault

-- a call, as `call 1 editor 2 accepted version 1` or `call 2 editor 1 refused edit 1 UnknownName`
unfoldable pub call_line : ℕ → Call → List ℕ
call_line place call = place_piece place call.editor ++ verdict_line call.verdict

-- calls in order, counted on from a place
abbrev pub call_lines : ℕ → List Call → List ℕ
call_lines place [] = []
call_lines place (call ∷ calls) = call_line place call ++ call_lines (place + 1) calls

unfoldable pub cause_words : LineCause → List ℕ
cause_words NotJson = codes "NotJson"
cause_words (NotCommand place) = number_piece (codes "NotCommand ") place
cause_words NotEdit = codes "NotEdit"

-- a file of edits has more bytes than are read, as `too long edits2`
unfoldable pub long_edits_line : ℕ → List ℕ
long_edits_line editor = number_piece (codes "too long edits") editor ++ newline

-- a line of a file of edits is no edit, as `bad script edits2 line 1 NotEdit`
unfoldable pub bad_script_line : ℕ → ℕ → LineCause → List ℕ
bad_script_line editor line cause = number_piece (codes "bad script edits") editor ++ number_piece (codes " line ") line ++ codes " " ++ cause_words cause ++ newline
