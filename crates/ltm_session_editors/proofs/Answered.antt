-- What is answered to the files of a folder.
use Rattle.std.proofs.Common.{◌≡◌, ℕ, ◌≤◌, true, false, inl, inr, refl, subst, ◌∙◌, arith, List, [], Option, Some, None, Ok, Err}
use Rattle.std.specs.Prelude.{IfSome}
use Rattle.std.specs.List.{Contains}
use Rattle.ltm_io.specs.declared.doc.Doc.{Doc}
use Rattle.ltm_io.specs.declared.doc.Doc.TheVariants as doc
use Rattle.ltm_io.specs.Folder.{Files}
use Rattle.ltm_io.specs.Faults.{Rose}
use Rattle.ltm_scenario.specs.declared.edit.Edit.{Edit}
use Rattle.ltm_scenario.specs.Data.{ScenarioData}
use Rattle.ltm_casefile.specs.declared.faults.File.{File}
use Rattle.ltm_casefile.specs.declared.faults.File.TheVariants as file
use Rattle.ltm_casefile.specs.declared.faults.CaseFault.{CaseFault}
use Rattle.ltm_casefile.specs.declared.faults.CaseFault.TheVariants as fault
use Rattle.ltm_casefile.specs.Case.{is_case_file, asks_for}
use Rattle.ltm_casefile.specs.KeptCase.{kept_case_of}
use Rattle.ltm_casefile.specs.Faults.{Agrees, HasRisen, WasAsked}
use Rattle.ltm_session_editors.specs.declared.fault.EditsFault.{EditsFault}
use Rattle.ltm_session_editors.specs.declared.fault.EditsFault.TheVariants as edits
use Rattle.ltm_session_editors.specs.Files.{docs_of}
use Rattle.ltm_session_editors.specs.Scripts.{scripts_of}
use Rattle.ltm_session_editors.specs.Faults.{IfMissing}
use Rattle.ltm_session_editors.specs.Faults as of_edits
use Rattle.ltm_session_editors.specs.declared.refusal.EditorsRefusal.TheVariants as refusal
use Rattle.ltm_session_editors.specs.Editing.{IsEditingText}
use Rattle.ltm_session_editors.specs.Answers.{AnswersEditing, IsTold, IsUngiven, Missed}

-- ---- a fault of the case
case_answer : (told : Option Files) (editors : ℕ) (f : CaseFault) → IfSome told (λ files. kept_case_of files ≡ Err f) → AnswersEditing told editors (Err (refusal.Case f))
case_answer None editors f says = (Err f, Ok [], tt, refl)
case_answer (Some files) editors f says = (Err f, scripts_of files editors, (says, refl), refl)

pub case_refused : (told : Option Files) (editors : ℕ) (f : CaseFault) → IfSome told (λ files. Agrees (kept_case_of files) f) → IsTold (refusal.Case f) → AnswersEditing told editors (Err (refusal.Case f))
case_refused told editors (fault.Folder x) says lies = absurd lies
case_refused told editors (fault.TooLong x) says lies = case_answer told editors (fault.TooLong x) says
case_refused told editors (fault.Bad x row cause) says lies = case_answer told editors (fault.Bad x row cause) says
case_refused told editors fault.NoHistory says lies = case_answer told editors fault.NoHistory says
case_refused told editors fault.NoMemory says lies = absurd lies

-- ---- a fault of the edits
edits_answer : (told now : Option Files) (editors : ℕ) (s : ScenarioData) (e : EditsFault) → now ≡ told → IfSome told (λ files. kept_case_of files ≡ Ok s) → IfSome now (λ files. scripts_of files editors ≡ Err e) → AnswersEditing told editors (Err (refusal.Edits e))
edits_answer None now editors s e keeps says found = (Ok s, Err e, tt, refl)
edits_answer (Some files) now editors s e keeps says found =
    (Ok s, Err e, (says, subst (λ (o : Option Files). IfSome o (λ fs. scripts_of fs editors ≡ Err e)) keeps found), refl)

pub edits_refused : (told now : Option Files) (editors : ℕ) (s : ScenarioData) (e : EditsFault) → now ≡ told → IfSome told (λ files. kept_case_of files ≡ Ok s) → IfSome now (λ files. of_edits.Agrees (scripts_of files editors) e) → IsTold (refusal.Edits e)
    → AnswersEditing told editors (Err (refusal.Edits e))
edits_refused told now editors s (edits.Missing editor) keeps says found lies = absurd lies
edits_refused told now editors s (edits.TooLong editor) keeps says found lies = edits_answer told now editors s (edits.TooLong editor) keeps says found
edits_refused told now editors s edits.TooMany keeps says found lies = edits_answer told now editors s edits.TooMany keeps says found
edits_refused told now editors s (edits.BadLine editor line cause) keeps says found lies = edits_answer told now editors s (edits.BadLine editor line cause) keeps says found
edits_refused told now editors s edits.NoMemory keeps says found lies = absurd lies

-- ---- a text
pub text_answer : (told now : Option Files) (editors : ℕ) (s : ScenarioData) (scripts : List (List (List Edit))) (text : List ℕ) → now ≡ told → IfSome told (λ files. kept_case_of files ≡ Ok s) → IfSome now (λ files. scripts_of files editors ≡ Ok scripts)
    → IsEditingText s scripts text → AnswersEditing told editors (Ok text)
text_answer None now editors s scripts text keeps says found is = (Ok s, Ok scripts, tt, (text, is, refl))
text_answer (Some files) now editors s scripts text keeps says found is =
    (Ok s, Ok scripts, (says, subst (λ (o : Option Files). IfSome o (λ fs. scripts_of fs editors ≡ Ok scripts)) keeps found), (text, is, refl))

-- ---- a file that was not given
pub edits_missed : (told : Option Files) (editors : ℕ) (before mid now : Doc → ℕ) (e : EditsFault) → ((d : Doc) → before d ≤ mid d) → IfMissing ((d : Doc) × Contains (docs_of editors) d × Rose (mid d) (now d)) e → IsUngiven (refusal.Edits e)
    → Missed told editors before now
edits_missed told editors before mid now (edits.Missing editor) later (d, is, rose) miss = (d, inr is, (let first = later d in omega (arith, first, rose)))
edits_missed told editors before mid now (edits.TooLong editor) later missed miss = absurd miss
edits_missed told editors before mid now edits.TooMany later missed miss = absurd miss
edits_missed told editors before mid now (edits.BadLine editor line cause) later missed miss = absurd miss
edits_missed told editors before mid now edits.NoMemory later missed miss = absurd miss
