-- What several editors write, and with which status the program ends.
use Rattle.std.specs.Prelude.{ℕ, ◌≡◌, List, [], Option, IfSome, Ok, Err, Some}
use Rattle.ltm_io.specs.declared.doc.Doc.{Doc}
use Rattle.ltm_io.specs.Folder.{Files}
use Rattle.ltm_io.specs.Faults.{Rose}
use Rattle.ltm_scenario.specs.declared.edit.Edit.{Edit}
use Rattle.ltm_scenario.specs.Data.{ScenarioData}
use Rattle.ltm_casefile.specs.KeptCase.{kept_case_of}
use Rattle.ltm_report.specs.Refusals.{too_many_line}
use Rattle.ltm_session_editors.specs.declared.fault.EditsFault.{EditsFault}
use Rattle.ltm_session_editors.specs.declared.fault.EditsFault.TheVariants as edits
use Rattle.ltm_session_editors.specs.Scripts.{scripts_of}
use Rattle.ltm_session_editors.specs.declared.refusal.EditorsRefusal.TheVariants as refusal
use Rattle.ltm_session_editors.specs.Lines.{long_edits_line, bad_script_line}
use Rattle.ltm_session_editors.specs.Answers.{Editing, AnswersEditing, MayAsk}
use Rattle.ltm_command.specs.declared.status.Status.{Status}
use Rattle.ltm_command.specs.declared.status.Status.TheVariants as ending
use Rattle.ltm_command.specs.Program.{case_status, refusal_of}

-- the line that refuses files of edits, and nothing where one is missing
abbrev pub edits_refusal : EditsFault → List ℕ
edits_refusal (edits.Missing editor) = []
edits_refusal (edits.TooLong editor) = long_edits_line editor
edits_refusal edits.TooMany = too_many_line
edits_refusal (edits.BadLine editor line cause) = bad_script_line editor line cause
edits_refusal edits.NoMemory = []

-- the status of a fault of them
abbrev pub edits_status : EditsFault → Status
edits_status (edits.Missing editor) = ending.FolderFault
edits_status (edits.TooLong editor) = ending.TooLong
edits_status edits.TooMany = ending.TooManyCommands
edits_status (edits.BadLine editor line cause) = ending.BadScript
edits_status edits.NoMemory = ending.NoMemory

-- what is written of an answer: its text, or the line that refuses the files; and its status
abbrev pub editing_words : Editing → List ℕ
editing_words (Ok text) = text
editing_words (Err (refusal.Case fault)) = refusal_of fault
editing_words (Err (refusal.Edits fault)) = edits_refusal fault

abbrev pub editing_status : Editing → Status
editing_status (Ok text) = ending.Ok
editing_status (Err (refusal.Case fault)) = case_status fault
editing_status (Err (refusal.Edits fault)) = edits_status fault

-- the whole text that belongs to so many editors and a status
abbrev pub IsEditingUnder : ℕ → Option Files → Status → List ℕ → Type 0
IsEditingUnder editors told status text = (answer : Editing) × AnswersEditing told editors answer × (status ≡ editing_status answer) × (text ≡ editing_words answer)

-- the files describe this case, and the lines of the files of edits are these batches
abbrev pub HasScripts : Option Files → ℕ → ScenarioData → List (List (List Edit)) → Type 0
HasScripts told editors s scripts = IfSome told (λ files. (kept_case_of files ≡ Ok s) × (scripts_of files editors ≡ Ok scripts))

-- no count of faults rose of a file that so many editors may ask for
abbrev pub IsCalmFor : ℕ → Files → (Doc → ℕ) → (Doc → ℕ) → Type 0
IsCalmFor editors files before now = (d : Doc) → MayAsk (Some files) editors d → Rose (before d) (now d) → ⊥
