-- What editors write of a folder's files.
use Rattle.std.proofs.Common.{ℕ, ◌≡◌, ◌⊎◌, inl, inr, refl, ap, sym, subst, ◌∙◌, List, Option, None, Some, Ok, Err, Bool, false}
use Rattle.std.specs.Prelude.{IfSome}
use Rattle.std.specs.List.{Contains}
use Rattle.ltm_io.specs.declared.doc.Doc.{Doc}
use Rattle.ltm_io.specs.Folder.{Files}
use Rattle.ltm_io.specs.Sink.{appended, AppendsFront}
use Rattle.ltm_scenario.specs.declared.edit.Edit.{Edit}
use Rattle.ltm_scenario.specs.Data.{ScenarioData}
use Rattle.ltm_casefile.specs.declared.faults.CaseFault.{CaseFault}
use Rattle.ltm_casefile.specs.declared.faults.CaseFault.TheVariants as fault
use Rattle.ltm_casefile.specs.Case.{is_case_file, asks_for}
use Rattle.ltm_check_command.specs.declared.refusal.Refusal.TheVariants as checked
use Rattle.ltm_session_editors.specs.declared.fault.EditsFault.TheVariants as edits
use Rattle.ltm_session_editors.specs.declared.fault.LineCause.{LineCause}
use Rattle.ltm_session_editors.specs.Files.{docs_of}
use Rattle.ltm_session_editors.specs.declared.refusal.EditorsRefusal.{EditorsRefusal}
use Rattle.ltm_session_editors.specs.declared.refusal.EditorsRefusal.TheVariants as refusal
use Rattle.ltm_session_editors.specs.Lines.{bad_script_line}
use Rattle.ltm_session_editors.specs.Editing.{IsEditingText}
use Rattle.ltm_session_editors.specs.Answers.{Editing, EditingAnswer, AnswersEditing, IsTold, IsUngiven, MayAsk, Missed}
use Rattle.ltm_command.specs.declared.status.Status.{Status}
use Rattle.ltm_command.specs.declared.status.Status.TheVariants as ending
use Rattle.ltm_command.specs.Program as texts
use Rattle.ltm_command.specs.Program.{IsWhole, case_status, refusal_of}
use Rattle.ltm_command.proofs.Running.{kept}
use Rattle.ltm_program.specs.Editors.{editing_words, editing_status, IsEditingUnder, HasScripts, IsCalmFor}

-- ---- a fault of the case is told as other commands tell it
told_case : (f : CaseFault) → texts.IsTold (checked.Case f) → IsTold (refusal.Case f)
told_case (fault.Folder x) is = absurd is
told_case (fault.TooLong x) is = tt
told_case (fault.Bad x row cause) is = tt
told_case fault.NoHistory is = tt
told_case fault.NoMemory is = absurd is

missing_case : (f : CaseFault) → texts.IsMissing (checked.Case f) → IsUngiven (refusal.Case f)
missing_case (fault.Folder x) is = tt
missing_case (fault.TooLong x) is = absurd is
missing_case (fault.Bad x row cause) is = absurd is
missing_case fault.NoHistory is = absurd is
missing_case fault.NoMemory is = absurd is

module _ (r : EditorsRefusal) (f : CaseFault) (is : r ≡ refusal.Case f) where
  pub case_whole : (old new : Option (List ℕ)) (result : Status) → (IsWhole result → texts.IsTold (checked.Case f) × (result ≡ case_status f) × (new ≡ appended (refusal_of f) old)) → IsWhole result
      → IsTold r × (result ≡ editing_status (Err r)) × (new ≡ appended (editing_words (Err r)) old)
  case_whole old new result wrote whole =
      let h = wrote whole in subst (λ (x : EditorsRefusal). IsTold x × (result ≡ editing_status (Err x)) × (new ≡ appended (editing_words (Err x)) old)) (sym is) (told_case f h.0, h.1, h.2)

  front_in : (old new : Option (List ℕ)) → (new ≡ old) ⊎ (texts.IsTold (checked.Case f) × AppendsFront old new (refusal_of f)) → (new ≡ old) ⊎ (IsTold (refusal.Case f) × AppendsFront old new (refusal_of f))
  front_in old new (inl same) = inl same
  front_in old new (inr (told, front)) = inr (told_case f told, front)

  pub case_front : (old new : Option (List ℕ)) → (new ≡ old) ⊎ (texts.IsTold (checked.Case f) × AppendsFront old new (refusal_of f)) → (new ≡ old) ⊎ (IsTold r × AppendsFront old new (editing_words (Err r)))
  case_front old new front = subst (λ (x : EditorsRefusal). (new ≡ old) ⊎ (IsTold x × AppendsFront old new (editing_words (Err x)))) (sym is) (front_in old new front)

  pub case_fails : (old new : Option (List ℕ)) (result : Status) → (result ≡ ending.FolderFault → texts.IsMissing (checked.Case f) × (new ≡ old)) → result ≡ ending.FolderFault → IsUngiven r × (new ≡ old)
  case_fails old new result gives failed = let h = gives failed in subst (λ (x : EditorsRefusal). IsUngiven x × (new ≡ old)) (sym is) (missing_case f h.0, h.1)

  pub case_writes : (Rises : Type 0) (result : Status) → (result ≡ ending.WriteFault → texts.IsTold (checked.Case f) × Rises) → result ≡ ending.WriteFault → IsTold r × Rises
  case_writes Rises result gives failed = let h = gives failed in (subst (λ (x : EditorsRefusal). IsTold x) (sym is) (told_case f h.0), h.1)

-- ---- files that stay
at_other : (P : Doc → Type 0) (docs : List Doc) (told : Option Files) (second : Files → Doc → Bool) (d : Doc) → (Contains docs d → ⊥)
    → IfSome told (λ files. (e : Doc) → second files e ≡ false → (Contains docs e → ⊥) → P e) → IfSome told (λ files. second files d ≡ false → P d)
at_other P docs None second d other stay = tt
at_other P docs (Some files) second d other stay = λ is. stay d is other

pub stays : (before now : Doc → ℕ) (editors : ℕ) (told : Option Files) → ((d : Doc) → is_case_file d ≡ false → (Contains (docs_of editors) d → ⊥) → now d ≡ before d)
    → IfSome told (λ files. (d : Doc) → asks_for files d ≡ false → (Contains (docs_of editors) d → ⊥) → now d ≡ before d) → (d : Doc) → (MayAsk told editors d → ⊥) → now d ≡ before d
stays before now editors told others unasked d out =
    kept (now d ≡ before d) told (is_case_file d) (λ files. asks_for files d) (λ both. out (inl both)) (λ is. others d is (λ has. out (inr has)))
    (at_other (λ e. now e ≡ before e) (docs_of editors) told asks_for d (λ has. out (inr has)) unasked)

-- ---- statuses that are never reached
pub never_usage : (e : EditorsRefusal) → editing_status (Err e) ≡ ending.Usage → ⊥
never_usage (refusal.Case (fault.Folder x)) is = cc
never_usage (refusal.Case (fault.TooLong x)) is = cc
never_usage (refusal.Case (fault.Bad x row cause)) is = cc
never_usage (refusal.Case fault.NoHistory) is = cc
never_usage (refusal.Case fault.NoMemory) is = cc
never_usage (refusal.Edits (edits.Missing editor)) is = cc
never_usage (refusal.Edits (edits.TooLong editor)) is = cc
never_usage (refusal.Edits edits.TooMany) is = cc
never_usage (refusal.Edits (edits.BadLine editor line cause)) is = cc
never_usage (refusal.Edits edits.NoMemory) is = cc

pub never_read : (e : EditorsRefusal) → editing_status (Err e) ≡ ending.ReadFault → ⊥
never_read (refusal.Case (fault.Folder x)) is = cc
never_read (refusal.Case (fault.TooLong x)) is = cc
never_read (refusal.Case (fault.Bad x row cause)) is = cc
never_read (refusal.Case fault.NoHistory) is = cc
never_read (refusal.Case fault.NoMemory) is = cc
never_read (refusal.Edits (edits.Missing editor)) is = cc
never_read (refusal.Edits (edits.TooLong editor)) is = cc
never_read (refusal.Edits edits.TooMany) is = cc
never_read (refusal.Edits (edits.BadLine editor line cause)) is = cc
never_read (refusal.Edits edits.NoMemory) is = cc

pub never_ok : (e : EditorsRefusal) → editing_status (Err e) ≡ ending.Ok → ⊥
never_ok (refusal.Case (fault.Folder x)) is = cc
never_ok (refusal.Case (fault.TooLong x)) is = cc
never_ok (refusal.Case (fault.Bad x row cause)) is = cc
never_ok (refusal.Case fault.NoHistory) is = cc
never_ok (refusal.Case fault.NoMemory) is = cc
never_ok (refusal.Edits (edits.Missing editor)) is = cc
never_ok (refusal.Edits (edits.TooLong editor)) is = cc
never_ok (refusal.Edits edits.TooMany) is = cc
never_ok (refusal.Edits (edits.BadLine editor line cause)) is = cc
never_ok (refusal.Edits edits.NoMemory) is = cc

-- a line tells of no missing file
pub told_given : (e : EditorsRefusal) → IsTold e → editing_status (Err e) ≡ ending.FolderFault → ⊥
told_given (refusal.Case (fault.Folder x)) told is = absurd told
told_given (refusal.Case (fault.TooLong x)) told is = cc
told_given (refusal.Case (fault.Bad x row cause)) told is = cc
told_given (refusal.Case fault.NoHistory) told is = cc
told_given (refusal.Case fault.NoMemory) told is = cc
told_given (refusal.Edits (edits.Missing editor)) told is = absurd told
told_given (refusal.Edits (edits.TooLong editor)) told is = cc
told_given (refusal.Edits edits.TooMany) told is = cc
told_given (refusal.Edits (edits.BadLine editor line cause)) told is = cc
told_given (refusal.Edits edits.NoMemory) told is = cc

-- ---- a file that is missing
only_refused : (files : Files) (editors : ℕ) (e : EditorsRefusal) (answer : Editing) → AnswersEditing (Some files) editors (Err e) → AnswersEditing (Some files) editors answer → answer ≡ Err e
only_refused files editors e answer (Ok s, Ok scripts, says, (text, is, same)) other = cc
only_refused files editors e answer (Ok s, Err f, (described, read), same) (case, said, (also, again), more) =
    let first : case ≡ Ok s = sym also ∙ described in
    let second : said ≡ Err f = sym again ∙ read in
    subst (λ x. EditingAnswer (Ok s) x answer) second (subst (λ x. EditingAnswer x said answer) first more) ∙ sym same
only_refused files editors e answer (Err f, scripts, (described, read), same) (case, said, (also, again), more) =
    let first : case ≡ Err f = sym also ∙ described in
    subst (λ x. EditingAnswer x said answer) first more ∙ sym same

pub missing_is : (e : EditorsRefusal) → IsUngiven e → ending.FolderFault ≡ editing_status (Err e)
missing_is (refusal.Case (fault.Folder x)) is = refl
missing_is (refusal.Case (fault.TooLong x)) is = absurd is
missing_is (refusal.Case (fault.Bad x row cause)) is = absurd is
missing_is (refusal.Case fault.NoHistory) is = absurd is
missing_is (refusal.Case fault.NoMemory) is = absurd is
missing_is (refusal.Edits (edits.Missing editor)) is = refl
missing_is (refusal.Edits (edits.TooLong editor)) is = absurd is
missing_is (refusal.Edits edits.TooMany) is = absurd is
missing_is (refusal.Edits (edits.BadLine editor line cause)) is = absurd is
missing_is (refusal.Edits edits.NoMemory) is = absurd is

-- so no other status has a text
pub only_lacking : (editors : ℕ) (told : Option Files) (files : Files) (due : Status) (t u : List ℕ) → told ≡ Some files → IsEditingUnder editors told ending.FolderFault t → IsEditingUnder editors told due u
    → due ≡ ending.FolderFault
only_lacking editors told files due t u is (Ok v, none, ends, at) other = absurd (cc)
only_lacking editors told files due t u is (Err e, none, ends, at) (answer, says, under, also) =
    let same : answer ≡ Err e = only_refused files editors e answer (subst (λ (o : Option Files). AnswersEditing o editors (Err e)) is none) (subst (λ (o : Option Files). AnswersEditing o editors answer) is says) in
    under ∙ ap editing_status same ∙ sym ends

-- ---- with no fault of the outside
pub missed_in_calm : (editors : ℕ) (told : Option Files) (files : Files) (before now : Doc → ℕ) → told ≡ Some files → IsCalmFor editors files before now → Missed told editors before now → ⊥
missed_in_calm editors told files before now is calm (d, may, rose) = calm d (subst (λ (o : Option Files). MayAsk o editors d) is may) rose

pub told_answer : (editors : ℕ) (told : Option Files) (files : Files) (result : Status) → told ≡ Some files → (text : List ℕ) × IsEditingUnder editors told result text → (answer : Editing) × AnswersEditing (Some files) editors answer × (result ≡ editing_status answer)
told_answer editors told files result is (text, (answer, says, status, text_is)) = (answer, subst (λ (o : Option Files). AnswersEditing o editors answer) is says, status)

-- ---- what belongs to a status
text_in : (told : Option Files) (editors : ℕ) (text t : List ℕ) → t ≡ text → AnswersEditing told editors (Ok text) → (s : ScenarioData) × (scripts : List (List (List Edit))) × HasScripts told editors s scripts × IsEditingText s scripts text
text_in told editors text t same (Ok s, Ok scripts, says, (u, is, at)) = let one : u ≡ text = cc in (s, scripts, says, subst (λ (x : List ℕ). IsEditingText s scripts x) one is)
text_in told editors text t same (Ok s, Err f, says, at) = absurd (cc)
text_in told editors text t same (Err f, said, says, at) = absurd (cc)

pub edited : (told : Option Files) (editors : ℕ) (text : List ℕ) → IsEditingUnder editors told ending.Ok text → (s : ScenarioData) × (scripts : List (List (List Edit))) × HasScripts told editors s scripts × IsEditingText s scripts text
edited told editors text (Ok t, says, ok, is) = text_in told editors text t (sym is) (subst (λ (x : List ℕ). AnswersEditing told editors (Ok x)) (sym is) says)
edited told editors text (Err (refusal.Case (fault.Folder x)), says, ok, is) = cc
edited told editors text (Err (refusal.Case (fault.TooLong x)), says, ok, is) = cc
edited told editors text (Err (refusal.Case (fault.Bad x row cause)), says, ok, is) = cc
edited told editors text (Err (refusal.Case fault.NoHistory), says, ok, is) = cc
edited told editors text (Err (refusal.Case fault.NoMemory), says, ok, is) = cc
edited told editors text (Err (refusal.Edits (edits.Missing editor)), says, ok, is) = cc
edited told editors text (Err (refusal.Edits (edits.TooLong editor)), says, ok, is) = cc
edited told editors text (Err (refusal.Edits edits.TooMany), says, ok, is) = cc
edited told editors text (Err (refusal.Edits (edits.BadLine editor line cause)), says, ok, is) = cc
edited told editors text (Err (refusal.Edits edits.NoMemory), says, ok, is) = cc

pub bad_line_told : (told : Option Files) (editors : ℕ) (text : List ℕ) → IsEditingUnder editors told ending.BadScript text
    → (editor : ℕ) × (line : ℕ) × (cause : LineCause) × AnswersEditing told editors (Err (refusal.Edits (edits.BadLine editor line cause))) × (text ≡ bad_script_line editor line cause)
bad_line_told told editors text (Ok t, says, ok, is) = cc
bad_line_told told editors text (Err (refusal.Case (fault.Folder x)), says, ok, is) = cc
bad_line_told told editors text (Err (refusal.Case (fault.TooLong x)), says, ok, is) = cc
bad_line_told told editors text (Err (refusal.Case (fault.Bad x row cause)), says, ok, is) = cc
bad_line_told told editors text (Err (refusal.Case fault.NoHistory), says, ok, is) = cc
bad_line_told told editors text (Err (refusal.Case fault.NoMemory), says, ok, is) = cc
bad_line_told told editors text (Err (refusal.Edits (edits.Missing editor)), says, ok, is) = cc
bad_line_told told editors text (Err (refusal.Edits (edits.TooLong editor)), says, ok, is) = cc
bad_line_told told editors text (Err (refusal.Edits edits.TooMany), says, ok, is) = cc
bad_line_told told editors text (Err (refusal.Edits (edits.BadLine editor line cause)), says, ok, is) = (editor, line, cause, says, is)
bad_line_told told editors text (Err (refusal.Edits edits.NoMemory), says, ok, is) = cc
