-- What a session promises, said of the lines of the script and of the bytes of the output alone: every report
-- that it writes between a settle and the next accepted edit is that of the one loading of the scenario as the
-- accepted edits leave it, and every other report is that of a finished loading of a prefix of those edits, never
-- shorter than one shown before.
use Rattle.std.specs.Prelude.{ℕ, ◌≡◌, ◌≤◌, ◌+◌, Bool, true, false, List, [], ◌∷◌, ◌++◌, length, map}
use Rattle.std.specs.Prelude.{take, All, Option, IfSome, Result, Ok, Err, MatchResult}
use Rattle.std.specs.List.{concat}
use Rattle.ltm_io.specs.Script.{lines_of}
use Rattle.ltm_flows.specs.Counts.{Counts}
use Rattle.ltm_scenario.specs.declared.edit.Edit.{Edit}
use Rattle.ltm_scenario.specs.declared.edit.EditFault.{EditFault}
use Rattle.ltm_scenario.specs.Data.{ScenarioData}
use Rattle.ltm_scenario.specs.Edits.{edited_all}
use Rattle.ltm_scenario.specs.IsScenario.{IsScenario}
use Rattle.ltm_loading.specs.Loading.{IsLoading}
use Rattle.ltm_setting.specs.Setting.{setting_of}
use Rattle.ltm_script.specs.Line.{reading}
use Rattle.ltm_script.specs.declared.command.Command.{Command}
use Rattle.ltm_script.specs.declared.command.Command.TheVariants as command
use Rattle.ltm_script.specs.declared.command.CommandFault.{CommandFault}
use Rattle.ltm_report.specs.Answers.{accepted_line, settled_line}
use Rattle.ltm_report.specs.EditFaults.{edit_fault_line}
use Rattle.ltm_report.specs.CommandFaults.{command_fault_line}
use Rattle.ltm_core.specs.Log.{after_batches}
use Rattle.ltm_session.specs.Questions.{Report, asked}
use Rattle.ltm_session.specs.OneLine.{IsPlain, IsOneLine}

-- ---- the script
-- how a session stands after some lines: the batches of edits that it has accepted, and whether a settle stands
-- behind the last
pub record Standing : Type 0 where
  pub accepted : List (List Edit)
  pub settled : Bool

-- before the first line there is nothing to settle
abbrev pub at_first : Standing
at_first = record { accepted = []; settled = true }

-- a batch that the scenario takes is accepted, and one that it refuses is not
abbrev pub after_edit : Standing → List Edit → Result ScenarioData EditFault → Standing
after_edit now batch (Ok next) = record { accepted = now.accepted ++ batch ∷ []; settled = false }
after_edit now batch (Err fault) = now

-- an edit may be accepted, a settle settles, and no other line changes anything
abbrev pub after_command : ScenarioData → Standing → Result Command CommandFault → Standing
after_command s now (Ok (command.Edit batch)) =
    after_edit now batch (edited_all (after_batches s now.accepted) batch)
after_command s now (Ok command.Settle) = record now { settled = true }
after_command s now said = now

abbrev pub after_lines : ScenarioData → Standing → List (List ℕ) → Standing
after_lines s now [] = now
after_lines s now (line ∷ lines) = after_lines s (after_command s now (reading line)) lines

-- how a session of this scenario stands after these lines
abbrev pub standing : ScenarioData → List (List ℕ) → Standing
standing s lines = after_lines s at_first lines

-- ---- the output
-- the text tells so of the loading of a scenario, under a version: there is a loading, and there is no other
abbrev pub TellsOf : ScenarioData → ℕ → Report → List ℕ → Type 0
TellsOf z version report text =
    (c : Counts) × IsScenario z × IsLoading (setting_of z) c × (text ≡ report version (setting_of z) c)

-- of the scenario after these batches, under their number
abbrev pub Tells : ScenarioData → List (List Edit) → Report → List ℕ → Type 0
Tells s batches report text = TellsOf (after_batches s batches) (length batches) report text

abbrev pub slots_after : ScenarioData → List (List Edit) → ℕ
slots_after s batches = (after_batches s batches).setup.slots

-- the answer to a line, where the session stands so and the loading after these batches is shown: an edit is told
-- to be accepted or refused, a settle to be made, a line that is no command to be none; and a question gets the
-- report of that loading that it asks for, or the line that refuses it
abbrev pub IsAnswer : ScenarioData → Standing → List (List Edit) → Result Command CommandFault → List ℕ → Type 0
IsAnswer s now shown (Ok (command.Edit batch)) text =
    MatchResult (edited_all (after_batches s now.accepted) batch)
    (λ next. text ≡ accepted_line (length now.accepted + 1))
    (λ fault. text ≡ edit_fault_line fault)
IsAnswer s now shown (Ok command.Settle) text = (n : ℕ) × (text ≡ settled_line (length now.accepted) n)
IsAnswer s now shown (Ok (command.Ask question)) text =
    MatchResult (asked s.network (slots_after s shown) question)
    (λ report. Tells s shown report text)
    (λ refusal. text ≡ refusal)
IsAnswer s now shown (Err fault) text = text ≡ command_fault_line fault

-- a line of the script, the text that answers it, and how many of the accepted batches the loading has that is
-- shown then
pub record Exchange : Type 0 where
  pub asks : List ℕ
  pub text : List ℕ
  pub shown : ℕ

abbrev pub lines_in : List Exchange → List (List ℕ)
lines_in exchanges = map (λ x. x.asks) exchanges

abbrev pub texts_in : List Exchange → List (List ℕ)
texts_in exchanges = map (λ x. x.text) exchanges

-- ---- the promise
-- of one answer, where the session stands so after the exchanges before it
pub record IsKeptAt (s : ScenarioData) (now : Standing) (before : List Exchange) (x : Exchange) : Type 0 where
  -- it is one line
  pub line : IsOneLine x.text
  -- it tells of a finished loading of a prefix of the accepted edits
  pub prefix : x.shown ≤ length now.accepted
  pub answer : IsAnswer s now (take x.shown now.accepted) (reading x.asks) x.text
  -- between a settle and the next accepted edit it is that of all of them
  pub fresh : now.settled ≡ true → x.shown ≡ length now.accepted
  -- and never of a shorter one than was shown before
  pub later : All (λ y. y.shown ≤ x.shown) before

abbrev pub IsKept : ScenarioData → List Exchange → Exchange → Type 0
IsKept s before x = IsKeptAt s (standing s (lines_in before)) before x

-- of an output of a session of this scenario with these lines: one answer to each line, in order
pub record KeepsPromise (s : ScenarioData) (lines : List (List ℕ)) (output : List ℕ) : Type 0 where
  pub exchanges : List Exchange
  pub lines_are : lines_in exchanges ≡ lines
  pub output_is : concat (texts_in exchanges) ≡ output
  pub kept : (before after : List Exchange) (x : Exchange) → exchanges ≡ before ++ x ∷ after → IsKept s before x

-- of what a session wrote that something stopped: answers to the first lines of the script, where it is told, and
-- perhaps a piece of the next answer without its end
pub record KeepsPromiseSoFar (s : ScenarioData) (told : Option (List ℕ)) (written : List ℕ) : Type 0 where
  pub answered : List (List ℕ)
  pub first : IfSome told (λ script. (left : List (List ℕ)) × (lines_of script ≡ answered ++ left))
  pub output : List ℕ
  pub promise : KeepsPromise s answered output
  pub piece : List ℕ
  pub plain : IsPlain piece
  pub written_is : written ≡ output ++ piece
