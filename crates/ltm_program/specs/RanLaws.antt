-- What follows of a run: what each command wrote, which refusal was told, and what stayed as it was.
use Rattle.std.specs.Prelude.{ℕ, ◌≡◌, ◌⊎◌, ◌≤◌, false, List, length, Option, IfSome, None, Some, Ok, Err}
use Rattle.std.specs.List.{Contains}
use Rattle.ltm_io.specs.declared.doc.Doc.{Doc}
use Rattle.ltm_io.specs.Folder.{Files}
use Rattle.ltm_io.specs.Faults.{Rose}
use Rattle.ltm_io.specs.Sink.{appended}
use Rattle.ltm_scenario.specs.declared.edit.Edit.{Edit}
use Rattle.ltm_scenario.specs.Data.{ScenarioData}
use Rattle.ltm_casefile.specs.declared.faults.File.{File}
use Rattle.ltm_casefile.specs.declared.faults.CaseCause.{CaseCause}
use Rattle.ltm_casefile.specs.declared.faults.CaseFault.{CaseFault}
use Rattle.ltm_casefile.specs.declared.faults.CaseFault.TheVariants as fault
use Rattle.ltm_casefile.specs.Case.{is_case_file, asks_for}
use Rattle.ltm_casefile.specs.KeptCase.{kept_case_of}
use Rattle.ltm_report.specs.CaseFaults.{bad_case_line, no_history_line}
use Rattle.ltm_report.specs.Reports.{IsReport}
use Rattle.ltm_report.specs.DelayReports.{IsDelayReport}
use Rattle.ltm_report.specs.GapReports.{IsGapReport}
use Rattle.ltm_report.specs.Sampled.{IsSampledReport}
use Rattle.ltm_command.specs.File.{IsSplitsFile, IsTimesFile}
use Rattle.ltm_command.specs.Trial.{IsTrial}
use Rattle.ltm_check.specs.Left.{records_of}
use Rattle.ltm_check.specs.ReadBack.{TellsLoading}
use Rattle.ltm_check_command.specs.declared.refusal.Refusal.{Refusal}
use Rattle.ltm_check_command.specs.declared.refusal.Refusal.TheVariants as refusal
use Rattle.ltm_check_command.specs.Lines.{yes_line}
use Rattle.ltm_check_command.specs.Loaded.{IsLoadingText}
use Rattle.ltm_check_command.specs.Checks.{HasCurves, most_bytes}
use Rattle.ltm_session.specs.Answers.{AnswersAlone}
use Rattle.ltm_session.specs.Session.{IsOutputAlone, IsSessionOutput}
use Rattle.ltm_session_viewers.specs.View.{IsViewOutput}
use Rattle.ltm_session_editors.specs.declared.fault.EditsFault.TheVariants as edits
use Rattle.ltm_session_editors.specs.declared.fault.LineCause.{LineCause}
use Rattle.ltm_session_editors.specs.Files.{docs_of}
use Rattle.ltm_session_editors.specs.declared.refusal.EditorsRefusal.{EditorsRefusal}
use Rattle.ltm_session_editors.specs.declared.refusal.EditorsRefusal.TheVariants as unedited
use Rattle.ltm_session_editors.specs.Lines.{bad_script_line}
use Rattle.ltm_session_editors.specs.Editing.{IsEditingText}
use Rattle.ltm_session_editors.specs.Answers.{Editing, AnswersEditing, IsUngiven}
use Rattle.ltm_command.specs.declared.status.Status.{Status}
use Rattle.ltm_command.specs.declared.status.Status.TheVariants as ending
use Rattle.ltm_command.specs.declared.words.Command.{Command}
use Rattle.ltm_command.specs.declared.words.Command.TheVariants as command
use Rattle.ltm_command.specs.declared.words.Report.TheVariants as report
use Rattle.ltm_command.specs.RouteLines.TheVariants as lines
use Rattle.ltm_command.specs.Words.{usage_line}
use Rattle.ltm_command.specs.Answers.{Answer, Answers, Describes, DescribesKept, HasText, may_fetch, fetches}
use Rattle.ltm_command.specs.Program.{IsMissing, IsLong, IsWhole, IsCalm, status_of, words_of}
use Rattle.ltm_command.specs.Run.{Outside, LeavesInput}
use Rattle.ltm_program.specs.Sessions.{ServesWhole, ServesWhatCame, session_status}
use Rattle.ltm_program.specs.Editors.{HasScripts, IsCalmFor, editing_words, editing_status}
use Rattle.ltm_program.specs.Ran.{Ran, rule_of}

-- this text was written
abbrev pub Wrote : List ℕ → Outside → Outside → Type 0
Wrote t b a = a.written ≡ appended t b.written

-- the counts of faults of the output and of the input did not rise
abbrev pub IsQuiet : Outside → Outside → Type 0
IsQuiet b a = Rose b.write_faults a.write_faults → ⊥

abbrev pub HeardAll : Outside → Outside → Type 0
HeardAll b a = Rose b.read_faults a.read_faults → ⊥

-- a file is told to be missing, or memory was not found
abbrev pub TellsMissing : Status → Type 0
TellsMissing status = (status ≡ ending.FolderFault) ⊎ (status ≡ ending.NoMemory)

-- the file was not touched
abbrev pub Stays : Outside → Outside → Doc → Type 0
Stays b a d = a.faults d ≡ b.faults d

-- ---- commands that answer one text
pub record TextsSay : Type 0 where
  pub load : (b a : Outside) → Ran (Some (command.Report report.Load)) ending.Ok b a
      → (s : ScenarioData) × (t : List ℕ) × Describes b.told (Ok s) × IsReport s t × Wrote t b a
  pub delay : (b a : Outside) → Ran (Some (command.Report report.Delay)) ending.Ok b a
      → (s : ScenarioData) × (t : List ℕ) × Describes b.told (Ok s) × IsDelayReport s t × Wrote t b a
  pub gap : (b a : Outside) → Ran (Some (command.Report report.Gap)) ending.Ok b a
      → (s : ScenarioData) × (t : List ℕ) × Describes b.told (Ok s) × IsGapReport s t × Wrote t b a
  pub totals : (b a : Outside) (every : ℕ) → Ran (Some (command.Report (report.Totals every))) ending.Ok b a
      → (s : ScenarioData) × (t : List ℕ) × Describes b.told (Ok s) × IsSampledReport every s t × Wrote t b a
  pub curves : (b a : Outside) → Ran (Some command.Curves) ending.Ok b a
      → (s : ScenarioData) × (t : List ℕ) × DescribesKept b.told (Ok s) × IsLoadingText s t × Wrote t b a
  -- a check says yes only where the curve file tells the loading of the case, and wherever it does
  pub check : (b a : Outside) → Ran (Some command.Check) ending.Ok b a
      → (s : ScenarioData) × (bytes : List ℕ) × HasCurves b.told s bytes × TellsLoading s (records_of bytes)
      × Wrote yes_line b a
  pub check_complete : (b a : Outside) (status : Status) (files : Files) (s : ScenarioData) (bytes : List ℕ)
      → Ran (Some command.Check) status b a
      → b.told ≡ Some files → HasCurves (Some files) s bytes → length bytes ≤ most_bytes
      → TellsLoading s (records_of bytes)
      → IsCalm command.Check files b.faults a.faults → IsQuiet b a → (status ≡ ending.Ok) ⊎ (status ≡ ending.NoMemory)
  pub routes : (b a : Outside)
      → Ran (Some (command.Routes lines.Splits)) ending.Ok b a → (t : List ℕ) × IsSplitsFile b.told t × Wrote t b a
  pub times : (b a : Outside)
      → Ran (Some (command.Routes lines.Times)) ending.Ok b a → (t : List ℕ) × IsTimesFile b.told t × Wrote t b a
  pub trial : (b a : Outside) (start nodes : ℕ) → Ran (Some (command.Try start nodes)) ending.Ok b a
      → (t : List ℕ) × IsTrial start nodes t × Wrote t b a

-- ---- sessions, and viewers at one
pub record SessionsSay : Type 0 where
  -- one that ends well has written an output of the case that the files describe and the whole input, read to its end
  pub session : (b a : Outside) (n : ℕ) → Ran (Some (command.Session n)) ending.Ok b a
      → (s : ScenarioData) × DescribesKept b.told (Ok s) × ServesWhole IsSessionOutput s b.left a.left b.written a.written
  pub session_alone : (b a : Outside) → Ran (Some (command.Session 0)) ending.Ok b a
      → (s : ScenarioData) × DescribesKept b.told (Ok s) × ServesWhole IsOutputAlone s b.left a.left b.written a.written
  pub view : (b a : Outside) (n : ℕ) → Ran (Some (command.View n)) ending.Ok b a
      → (s : ScenarioData) × DescribesKept b.told (Ok s) × ServesWhole (IsViewOutput n) s b.left a.left b.written a.written
  -- one that a failed read ends has answered exactly the lines that had come whole
  pub session_cut : (b a : Outside) (n : ℕ) → Ran (Some (command.Session n)) ending.ReadFault b a
      → (s : ScenarioData) × DescribesKept b.told (Ok s) × ServesWhatCame (rule_of n) s b.left a.left b.written a.written
  pub view_cut : (b a : Outside) (n : ℕ) → Ran (Some (command.View n)) ending.ReadFault b a
      → (s : ScenarioData) × DescribesKept b.told (Ok s) × ServesWhatCame AnswersAlone s b.left a.left b.written a.written
  -- with no fault of the outside the status is that of the case and the script
  pub session_complete : (b a : Outside) (status : Status) (files : Files) (script : List ℕ) (n : ℕ)
      → Ran (Some (command.Session n)) status b a
      → b.told ≡ Some files → b.left ≡ Some script
      → IsCalm (command.Report report.Load) files b.faults a.faults → HeardAll b a → IsQuiet b a
      → (status ≡ session_status (kept_case_of files) script) ⊎ (status ≡ ending.NoMemory)
  pub view_complete : (b a : Outside) (status : Status) (files : Files) (script : List ℕ) (n : ℕ)
      → Ran (Some (command.View n)) status b a
      → b.told ≡ Some files → b.left ≡ Some script
      → IsCalm (command.Report report.Load) files b.faults a.faults → HeardAll b a → IsQuiet b a
      → (status ≡ session_status (kept_case_of files) script) ⊎ (status ≡ ending.NoMemory)
  -- a missing file is told
  pub session_missing : (b a : Outside) (status : Status) (files : Files) (f : File) (n : ℕ)
      → Ran (Some (command.Session n)) status b a
      → b.told ≡ Some files → kept_case_of files ≡ Err (fault.Folder f) → TellsMissing status
  pub view_missing : (b a : Outside) (status : Status) (files : Files) (f : File) (n : ℕ)
      → Ran (Some (command.View n)) status b a
      → b.told ≡ Some files → kept_case_of files ≡ Err (fault.Folder f) → TellsMissing status
  -- of a case that is refused the input stays as it was
  pub session_unread : (b a : Outside) (status : Status) (files : Files) (f : CaseFault) (n : ℕ)
      → Ran (Some (command.Session n)) status b a
      → b.told ≡ Some files → kept_case_of files ≡ Err f → IsWhole status → LeavesInput b a
  pub view_unread : (b a : Outside) (status : Status) (files : Files) (f : CaseFault) (n : ℕ)
      → Ran (Some (command.View n)) status b a
      → b.told ≡ Some files → kept_case_of files ≡ Err f → IsWhole status → LeavesInput b a

-- ---- several editors
pub record EditorsSay : Type 0 where
  -- those that end well have written one legal history of the case and the lines of their files, and its totals
  pub editors : (b a : Outside) (n : ℕ)
      → Ran (Some (command.Editors n)) ending.Ok b a → (s : ScenarioData) × (scripts : List (List (List Edit)))
      × (t : List ℕ) × HasScripts b.told n s scripts × IsEditingText s scripts t × Wrote t b a
  pub editors_answer : (b a : Outside) (status : Status) (n : ℕ)
      → Ran (Some (command.Editors n)) status b a → IsWhole status
      → (answer : Editing) × AnswersEditing b.told n answer × (status ≡ editing_status answer)
      × Wrote (editing_words answer) b a
  pub bad_script : (b a : Outside) (n : ℕ)
      → Ran (Some (command.Editors n)) ending.BadScript b a → (editor : ℕ) × (line : ℕ) × (cause : LineCause)
      × AnswersEditing b.told n (Err (unedited.Edits (edits.BadLine editor line cause)))
      × Wrote (bad_script_line editor line cause) b a
  pub editors_complete : (b a : Outside) (status : Status) (files : Files) (n : ℕ)
      → Ran (Some (command.Editors n)) status b a
      → b.told ≡ Some files → IsCalmFor n files b.faults a.faults → IsQuiet b a
      → ((answer : Editing) × AnswersEditing (Some files) n answer
      × (status ≡ editing_status answer)) ⊎ (status ≡ ending.NoMemory)
  pub editors_missing : (b a : Outside) (status : Status) (files : Files) (n : ℕ) (e : EditorsRefusal)
      → Ran (Some (command.Editors n)) status b a
      → b.told ≡ Some files → IsUngiven e → AnswersEditing (Some files) n (Err e) → TellsMissing status

-- ---- what decides
pub record RefusalsSay : Type 0 where
  -- the words decide between the usage line and a command
  pub usage : (b a : Outside) (c : Option Command) → Ran c ending.Usage b a → (c ≡ None) × Wrote usage_line b a
  pub asked : (b a : Outside) (status : Status) → Ran None status b a
      → (status ≡ ending.Usage) ⊎ ((status ≡ ending.WriteFault) ⊎ (status ≡ ending.NoMemory))
  -- where a file is missing, or the words ask for no command, the input stays as it was
  pub missing_unread : (b a : Outside) (c : Option Command) → Ran c ending.FolderFault b a → LeavesInput b a
  pub asked_unread : (b a : Outside) (status : Status) → Ran None status b a → LeavesInput b a
  -- what the files say decides between the text of a command and a refusal
  pub bad_case : (b a : Outside) (c : Command)
      → HasText c → Ran (Some c) ending.BadCase b a → (f : File) × (row : ℕ) × (cause : CaseCause)
      × Answers c b.told (Err (refusal.Case (fault.Bad f row cause))) × Wrote (bad_case_line f row cause) b a
  pub no_history : (b a : Outside) (c : Command) → HasText c → Ran (Some c) ending.NoHistory b a
      → Answers c b.told (Err (refusal.Case fault.NoHistory)) × Wrote no_history_line b a
  pub too_long : (b a : Outside) (c : Command) → HasText c → Ran (Some c) ending.TooLong b a
      → (e : Refusal) × IsLong e × Answers c b.told (Err e) × Wrote (words_of e) b a
  -- with no fault of the outside the status is that of the answer to the files
  pub complete : (b a : Outside) (status : Status) (files : Files) (c : Command) → HasText c → Ran (Some c) status b a
      → b.told ≡ Some files → IsCalm c files b.faults a.faults → IsQuiet b a
      → ((answer : Answer) × Answers c (Some files) answer × (status ≡ status_of answer)) ⊎ (status ≡ ending.NoMemory)
  -- a missing file is told
  pub missing : (b a : Outside) (status : Status) (files : Files) (c : Command) (e : Refusal)
      → HasText c → Ran (Some c) status b a
      → b.told ≡ Some files → IsMissing e → Answers c (Some files) (Err e) → TellsMissing status

-- ---- what stays
pub record FilesStay : Type 0 where
  pub untouched : (b a : Outside) (status : Status) → Ran None status b a → (d : Doc) → Stays b a d
  pub others : (b a : Outside) (status : Status) (c : Command)
      → HasText c → Ran (Some c) status b a → (d : Doc) → may_fetch c d ≡ false → Stays b a d
  pub unasked : (b a : Outside) (status : Status) (c : Command) → HasText c → Ran (Some c) status b a
      → IfSome b.told (λ files. (d : Doc) → fetches c files d ≡ false → Stays b a d)
  pub session_others : (b a : Outside) (status : Status) (n : ℕ)
      → Ran (Some (command.Session n)) status b a → (d : Doc) → is_case_file d ≡ false → Stays b a d
  pub session_unasked : (b a : Outside) (status : Status) (n : ℕ) → Ran (Some (command.Session n)) status b a
      → IfSome b.told (λ files. (d : Doc) → asks_for files d ≡ false → Stays b a d)
  pub view_others : (b a : Outside) (status : Status) (n : ℕ)
      → Ran (Some (command.View n)) status b a → (d : Doc) → is_case_file d ≡ false → Stays b a d
  pub view_unasked : (b a : Outside) (status : Status) (n : ℕ) → Ran (Some (command.View n)) status b a
      → IfSome b.told (λ files. (d : Doc) → asks_for files d ≡ false → Stays b a d)
  pub editors_others : (b a : Outside) (status : Status) (n : ℕ) → Ran (Some (command.Editors n)) status b a
      → (d : Doc) → is_case_file d ≡ false → (Contains (docs_of n) d → ⊥) → Stays b a d
  pub editors_unasked : (b a : Outside) (status : Status) (n : ℕ) → Ran (Some (command.Editors n)) status b a
      → IfSome b.told (λ files. (d : Doc) → asks_for files d ≡ false → (Contains (docs_of n) d → ⊥) → Stays b a d)
