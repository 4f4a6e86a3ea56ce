-- What editors answer to a case and their files of edits.
use Rattle.std.specs.Prelude.{ℕ, ◌≡◌, ◌⊎◌, true, List, Option, IfSome, Result, Ok, Err}
use Rattle.std.specs.List.{Contains}
use Rattle.ltm_io.specs.declared.doc.Doc.{Doc}
use Rattle.ltm_io.specs.Folder.{Files}
use Rattle.ltm_io.specs.Faults.{Rose}
use Rattle.ltm_scenario.specs.declared.edit.Edit.{Edit}
use Rattle.ltm_scenario.specs.Data.{ScenarioData}
use Rattle.ltm_casefile.specs.declared.faults.CaseFault.{CaseFault}
use Rattle.ltm_casefile.specs.declared.faults.CaseFault.TheVariants as fault
use Rattle.ltm_casefile.specs.Case.{is_case_file, asks_for}
use Rattle.ltm_casefile.specs.KeptCase.{kept_case_of}
use Rattle.ltm_session_editors.specs.declared.fault.EditsFault.{EditsFault}
use Rattle.ltm_session_editors.specs.declared.fault.EditsFault.TheVariants as edits
use Rattle.ltm_session_editors.specs.Files.{docs_of}
use Rattle.ltm_session_editors.specs.Scripts.{scripts_of}
use Rattle.ltm_session_editors.specs.declared.refusal.EditorsRefusal.{EditorsRefusal}
use Rattle.ltm_session_editors.specs.declared.refusal.EditorsRefusal.TheVariants as refusal
use Rattle.ltm_session_editors.specs.Editing.{IsEditingText}

-- a text, or the refusal in place of it
abbrev pub Editing : Type 0
Editing = Result (List ℕ) EditorsRefusal

-- the scripts of the editors, or what is wrong first with their files
abbrev pub Scripts : Type 0
Scripts = Result (List (List (List Edit))) EditsFault

-- what is answered to scripts, and to a case and scripts
abbrev pub ScriptsAnswer : ScenarioData → Scripts → Editing → Type 0
ScriptsAnswer s (Ok scripts) answer = (text : List ℕ) × IsEditingText s scripts text × (answer ≡ Ok text)
ScriptsAnswer s (Err fault) answer = answer ≡ Err (refusal.Edits fault)

abbrev pub EditingAnswer : Result ScenarioData CaseFault → Scripts → Editing → Type 0
EditingAnswer (Ok s) said answer = ScriptsAnswer s said answer
EditingAnswer (Err fault) said answer = answer ≡ Err (refusal.Case fault)

-- the same of so many editors and the files that a folder tells, where it tells any
abbrev pub AnswersEditing : Option Files → ℕ → Editing → Type 0
AnswersEditing told editors answer = (read : Result ScenarioData CaseFault) × (said : Scripts)
    × IfSome told (λ files. (kept_case_of files ≡ read) × (scripts_of files editors ≡ said)) × EditingAnswer read said answer

-- a line tells of the refusal: it lies in the files
abbrev pub IsTold : EditorsRefusal → Type 0
IsTold (refusal.Case (fault.Folder file)) = ⊥
IsTold (refusal.Case (fault.TooLong file)) = Unit {0}
IsTold (refusal.Case (fault.Bad file row cause)) = Unit {0}
IsTold (refusal.Case fault.NoHistory) = Unit {0}
IsTold (refusal.Case fault.NoMemory) = ⊥
IsTold (refusal.Edits (edits.Missing editor)) = ⊥
IsTold (refusal.Edits (edits.TooLong editor)) = Unit {0}
IsTold (refusal.Edits edits.TooMany) = Unit {0}
IsTold (refusal.Edits (edits.BadLine editor line cause)) = Unit {0}
IsTold (refusal.Edits edits.NoMemory) = ⊥

-- a file was not given
abbrev pub IsUngiven : EditorsRefusal → Type 0
IsUngiven (refusal.Case (fault.Folder file)) = Unit {0}
IsUngiven (refusal.Case (fault.TooLong file)) = ⊥
IsUngiven (refusal.Case (fault.Bad file row cause)) = ⊥
IsUngiven (refusal.Case fault.NoHistory) = ⊥
IsUngiven (refusal.Case fault.NoMemory) = ⊥
IsUngiven (refusal.Edits (edits.Missing editor)) = Unit {0}
IsUngiven (refusal.Edits (edits.TooLong editor)) = ⊥
IsUngiven (refusal.Edits edits.TooMany) = ⊥
IsUngiven (refusal.Edits (edits.BadLine editor line cause)) = ⊥
IsUngiven (refusal.Edits edits.NoMemory) = ⊥

-- ---- files
-- so many editors may ask a folder with these files for this one: one of the case, or of the edits
abbrev pub MayAsk : Option Files → ℕ → Doc → Type 0
MayAsk told editors d = ((is_case_file d ≡ true) × IfSome told (λ files. asks_for files d ≡ true)) ⊎ Contains (docs_of editors) d

-- the count of faults rose of such a file
abbrev pub Missed : Option Files → ℕ → (Doc → ℕ) → (Doc → ℕ) → Type 0
Missed told editors before now = (d : Doc) × MayAsk told editors d × Rose (before d) (now d)
