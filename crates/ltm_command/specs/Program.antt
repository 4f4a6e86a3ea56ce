-- What belongs to an answer: its text and its status; and whose file failed.
use Rattle.std.specs.Prelude.{ℕ, ◌≡◌, true, List, [], Option, IfSome, Ok, Err}
use Rattle.ltm_io.specs.declared.doc.Doc.{Doc}
use Rattle.ltm_io.specs.Folder.{Files}
use Rattle.ltm_io.specs.Faults.{Rose}
use Rattle.ltm_casefile.specs.declared.faults.CaseFault.{CaseFault}
use Rattle.ltm_casefile.specs.declared.faults.CaseFault.TheVariants as fault
use Rattle.ltm_report.specs.CaseFaults.{bad_case_line, too_long_line, no_history_line}
use Rattle.ltm_check_command.specs.declared.refusal.Refusal.{Refusal}
use Rattle.ltm_check_command.specs.declared.refusal.Refusal.TheVariants as refusal
use Rattle.ltm_check_command.specs.Lines.{bad_curves_line, no_start_line, no_step_line, long_curves_line}
use Rattle.ltm_command.specs.declared.status.Status.{Status}
use Rattle.ltm_command.specs.declared.status.Status.TheVariants as ending
use Rattle.ltm_command.specs.declared.words.Command.{Command}
use Rattle.ltm_command.specs.declared.words.Command.TheVariants as command
use Rattle.ltm_command.specs.declared.words.Report.TheVariants as report
use Rattle.ltm_command.specs.Answers.{Answer, Answers, may_fetch, fetches}

-- the line that refuses a case, and nothing where a file is missing
abbrev pub refusal_of : CaseFault → List ℕ
refusal_of (fault.Folder file) = []
refusal_of (fault.TooLong file) = too_long_line file
refusal_of (fault.Bad file row cause) = bad_case_line file row cause
refusal_of fault.NoHistory = no_history_line
refusal_of fault.NoMemory = []

-- the line that refuses a case or its curve file
abbrev pub words_of : Refusal → List ℕ
words_of (refusal.Case fault) = refusal_of fault
words_of refusal.NoCurves = []
words_of refusal.LongCurves = long_curves_line
words_of (refusal.BadCurves row cause) = bad_curves_line row cause
words_of refusal.NoStart = no_start_line
words_of (refusal.NoStep node slot) = no_step_line node slot

-- what is written of an answer: its text, or the line that refuses the files
abbrev pub text_of : Answer → List ℕ
text_of (Ok text) = text
text_of (Err refusal) = words_of refusal

-- the status of a fault of the case
abbrev pub case_status : CaseFault → Status
case_status (fault.Folder file) = ending.FolderFault
case_status (fault.TooLong file) = ending.TooLong
case_status (fault.Bad file row cause) = ending.BadCase
case_status fault.NoHistory = ending.NoHistory
case_status fault.NoMemory = ending.NoMemory

-- the status of a refusal
abbrev pub refusal_status : Refusal → Status
refusal_status (refusal.Case fault) = case_status fault
refusal_status refusal.NoCurves = ending.FolderFault
refusal_status refusal.LongCurves = ending.TooLong
refusal_status (refusal.BadCurves row cause) = ending.BadCurves
refusal_status refusal.NoStart = ending.NotLoading
refusal_status (refusal.NoStep node slot) = ending.NotLoading

-- the status of an answer
abbrev pub status_of : Answer → Status
status_of (Ok text) = ending.Ok
status_of (Err refusal) = refusal_status refusal

-- a file was not given
abbrev pub IsMissing : Refusal → Type 0
IsMissing (refusal.Case (fault.Folder file)) = Unit {0}
IsMissing (refusal.Case (fault.TooLong file)) = ⊥
IsMissing (refusal.Case (fault.Bad file row cause)) = ⊥
IsMissing (refusal.Case fault.NoHistory) = ⊥
IsMissing (refusal.Case fault.NoMemory) = ⊥
IsMissing refusal.NoCurves = Unit {0}
IsMissing refusal.LongCurves = ⊥
IsMissing (refusal.BadCurves row cause) = ⊥
IsMissing refusal.NoStart = ⊥
IsMissing (refusal.NoStep node slot) = ⊥

-- a line tells of the refusal: it lies in the files
abbrev pub IsTold : Refusal → Type 0
IsTold (refusal.Case (fault.Folder file)) = ⊥
IsTold (refusal.Case (fault.TooLong file)) = Unit {0}
IsTold (refusal.Case (fault.Bad file row cause)) = Unit {0}
IsTold (refusal.Case fault.NoHistory) = Unit {0}
IsTold (refusal.Case fault.NoMemory) = ⊥
IsTold refusal.NoCurves = ⊥
IsTold refusal.LongCurves = Unit {0}
IsTold (refusal.BadCurves row cause) = Unit {0}
IsTold refusal.NoStart = Unit {0}
IsTold (refusal.NoStep node slot) = Unit {0}

-- a file has more bytes than are read
abbrev pub IsLong : Refusal → Type 0
IsLong (refusal.Case (fault.Folder file)) = ⊥
IsLong (refusal.Case (fault.TooLong file)) = Unit {0}
IsLong (refusal.Case (fault.Bad file row cause)) = ⊥
IsLong (refusal.Case fault.NoHistory) = ⊥
IsLong (refusal.Case fault.NoMemory) = ⊥
IsLong refusal.NoCurves = ⊥
IsLong refusal.LongCurves = Unit {0}
IsLong (refusal.BadCurves row cause) = ⊥
IsLong refusal.NoStart = ⊥
IsLong (refusal.NoStep node slot) = ⊥

-- the whole text that belongs to a command and a status
abbrev pub IsAnswerUnder : Command → Option Files → Status → List ℕ → Type 0
IsAnswerUnder command told status text = (answer : Answer) × Answers command told answer × (status ≡ status_of answer) × (text ≡ text_of answer)

-- no fault of the outside and no want of memory: the whole text is written
abbrev pub IsWhole : Status → Type 0
IsWhole ending.Ok = Unit {0}
IsWhole ending.Usage = Unit {0}
IsWhole ending.FolderFault = ⊥
IsWhole ending.ReadFault = Unit {0}
IsWhole ending.WriteFault = ⊥
IsWhole ending.BadCase = Unit {0}
IsWhole ending.TooLong = Unit {0}
IsWhole ending.TooManyCommands = Unit {0}
IsWhole ending.NoMemory = ⊥
IsWhole ending.BadCurves = Unit {0}
IsWhole ending.NotLoading = Unit {0}
IsWhole ending.BadScript = Unit {0}
IsWhole ending.NoHistory = Unit {0}

-- ---- faults of the folder
-- a command may fetch the file: one of its own, and where the folder tells its files one that it asks them for
abbrev pub Fetches : Command → Option Files → Doc → Type 0
Fetches command told d = (may_fetch command d ≡ true) × IfSome told (λ files. fetches command files d ≡ true)

-- a file of the case
abbrev pub FetchesCase : Option Files → Doc → Type 0
FetchesCase = Fetches (command.Report report.Load)

-- the count of faults rose of a file that the command may fetch and that it fetches from this folder, where that is told
abbrev pub FileFailed : Command → Option Files → (Doc → ℕ) → (Doc → ℕ) → Type 0
FileFailed command told before now = (d : Doc) × (may_fetch command d ≡ true) × IfSome told (λ files. fetches command files d ≡ true) × Rose (before d) (now d)

-- no count of faults rose of a file that the command fetches
abbrev pub IsCalm : Command → Files → (Doc → ℕ) → (Doc → ℕ) → Type 0
IsCalm command files before now = (d : Doc) → fetches command files d ≡ true → Rose (before d) (now d) → ⊥
