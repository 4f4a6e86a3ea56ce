-- What each command answers, a text or a fault of the files, and which files it fetches.
use Rattle.std.specs.Prelude.{ℕ, ◌≡◌, Bool, false, List, Option, IfSome, IfOk, Result, Ok, Err}
use Rattle.ltm_io.specs.declared.doc.Doc.{Doc}
use Rattle.ltm_io.specs.Folder.{Files}
use Rattle.ltm_routes_command.specs.Data.{ScenarioData}
use Rattle.ltm_casefile.specs.declared.faults.CaseFault.{CaseFault}
use Rattle.ltm_casefile.specs.declared.faults.CaseFault.TheVariants as fault
use Rattle.ltm_casefile.specs.Case.{case_of, asks_for, is_case_file}
use Rattle.ltm_casefile.specs.KeptCase.{kept_case_of}
use Rattle.ltm_casefile.specs.Roads.{is_of_roads, roads_ask}
use Rattle.ltm_routes_command.specs.declared.lines.RouteLines.{RouteLines}
use Rattle.ltm_routes_command.specs.declared.lines.RouteLines.TheVariants as lines
use Rattle.ltm_routes_command.specs.Routing.{AnswersRoutes}
use Rattle.ltm_routes_command.specs.File.{IsSplitsFile, IsTimesFile}
use Rattle.ltm_command.specs.declared.words.Command.{Command}
use Rattle.ltm_command.specs.declared.words.Command.TheVariants as command
use Rattle.ltm_command.specs.declared.words.Report.{Report}
use Rattle.ltm_command.specs.declared.words.Report.TheVariants as report
use Rattle.ltm_try_command.specs.Trial.{IsTrial}
use Rattle.ltm_check_command.specs.declared.refusal.Refusal.{Refusal}
use Rattle.ltm_check_command.specs.declared.refusal.Refusal.TheVariants as refusal
use Rattle.ltm_check_command.specs.Loaded.{AnswersCurves}
use Rattle.ltm_check_command.specs.Checks.{AnswersCheck, is_check_file, check_asks_for}
use Rattle.ltm_report.specs.Reports.{IsReport}
use Rattle.ltm_report.specs.DelayReports.{IsDelayReport}
use Rattle.ltm_report.specs.GapReports.{IsGapReport}
use Rattle.ltm_report.specs.Sampled.{IsSampledReport}

-- a text, or the refusal in place of it
abbrev pub Answer : Type 0
Answer = Result (List ℕ) Refusal

-- a text, or the fault of a case in place of it
abbrev pub answer_of : Result (List ℕ) CaseFault → Answer
answer_of (Ok text) = Ok text
answer_of (Err fault) = Err (refusal.Case fault)

-- what a folder tells of its files, where it tells anything, describes this case
abbrev pub Describes : Option Files → Result ScenarioData CaseFault → Type 0
Describes told said = IfSome told (λ files. case_of files ≡ said)

-- the same of a case whose history is to be kept
abbrev pub DescribesKept : Option Files → Result ScenarioData CaseFault → Type 0
DescribesKept told said = IfSome told (λ files. kept_case_of files ≡ said)

-- a text reports this of a case
abbrev pub Reports : Report → ScenarioData → List ℕ → Type 0
Reports report.Load = IsReport
Reports report.Delay = IsDelayReport
Reports report.Gap = IsGapReport
Reports (report.Totals every) = IsSampledReport every

-- what is answered to a case by a report of it
abbrev pub CaseAnswer : (ScenarioData → List ℕ → Type 0) → Result ScenarioData CaseFault → Answer → Type 0
CaseAnswer Reports (Ok s) answer = (text : List ℕ) × Reports s text × (answer ≡ Ok text)
CaseAnswer Reports (Err fault) answer = answer ≡ Err (refusal.Case fault)

-- the same of the case that a folder tells
abbrev pub ReportAnswer : (ScenarioData → List ℕ → Type 0) → Option Files → Answer → Type 0
ReportAnswer Reports told answer = (said : Result ScenarioData CaseFault) × Describes told said × CaseAnswer Reports said answer

-- a text is the file of routes
abbrev pub IsRoutesFile : RouteLines → Option Files → List ℕ → Type 0
IsRoutesFile lines.Splits = IsSplitsFile
IsRoutesFile lines.Times = IsTimesFile

-- what `routes` answers
abbrev pub RouteAnswer : RouteLines → Option Files → Answer → Type 0
RouteAnswer lines told answer = (said : Result (List ℕ) CaseFault) × AnswersRoutes lines told said × (answer ≡ answer_of said)

-- what `curves` answers
abbrev pub CurvesAnswer : Option Files → Answer → Type 0
CurvesAnswer told answer = (said : Result (List ℕ) CaseFault) × AnswersCurves told said × (answer ≡ answer_of said)

-- what a command answers to what a folder tells of its files; those that are served make no such answer
abbrev pub Answers : Command → Option Files → Answer → Type 0
Answers (command.Report report) told answer = ReportAnswer (Reports report) told answer
Answers (command.Routes which) told answer = RouteAnswer which told answer × IfOk answer (IsRoutesFile which told)
Answers (command.Try start nodes) told answer = (text : List ℕ) × IsTrial start nodes text × (answer ≡ Ok text)
Answers command.Curves told answer = CurvesAnswer told answer
Answers command.Check told answer = AnswersCheck told answer
Answers c told answer = ⊥

-- a refusal that lies in the files is the answer; that a folder did not give a file, or memory was not found, does not lie
-- in them
abbrev pub AnswersFault : Command → Option Files → Refusal → Type 0
AnswersFault command told (refusal.Case (fault.Folder file)) = Unit {0}
AnswersFault command told (refusal.Case (fault.TooLong file)) = Answers command told (Err (refusal.Case (fault.TooLong file)))
AnswersFault command told (refusal.Case (fault.Bad file row cause)) = Answers command told (Err (refusal.Case (fault.Bad file row cause)))
AnswersFault command told (refusal.Case fault.NoHistory) = Answers command told (Err (refusal.Case fault.NoHistory))
AnswersFault command told (refusal.Case fault.NoMemory) = Unit {0}
AnswersFault command told refusal.NoCurves = Unit {0}
AnswersFault command told refusal.LongCurves = Answers command told (Err refusal.LongCurves)
AnswersFault command told (refusal.BadCurves row cause) = Answers command told (Err (refusal.BadCurves row cause))
AnswersFault command told refusal.NoStart = Answers command told (Err refusal.NoStart)
AnswersFault command told (refusal.NoStep node slot) = Answers command told (Err (refusal.NoStep node slot))

-- the command answers one text, or a line that refuses the files; the others are served
abbrev pub HasText : Command → Type 0
HasText (command.Session workers) = ⊥
HasText (command.View viewers) = ⊥
HasText (command.Editors editors) = ⊥
HasText c = Unit {0}

-- ---- files
-- the files that a command may fetch
abbrev pub may_fetch : Command → Doc → Bool
may_fetch (command.Report report) d = is_case_file d
may_fetch (command.Routes which) d = is_of_roads d
may_fetch command.Curves d = is_case_file d
may_fetch command.Check d = is_check_file d
may_fetch c d = false

-- the files that it fetches from a folder with these files
abbrev pub fetches : Command → Files → Doc → Bool
fetches (command.Report report) files d = asks_for files d
fetches (command.Routes which) files d = roads_ask files d
fetches command.Curves files d = asks_for files d
fetches command.Check files d = check_asks_for files d
fetches c files d = false
