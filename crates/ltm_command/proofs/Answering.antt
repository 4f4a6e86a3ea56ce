-- What a command answers, from what its crate says of the files.
use Rattle.std.proofs.Common.{ℕ, ◌≡◌, refl, List, Option, Ok, Err}
use Rattle.std.specs.Prelude.{IfSome, IfOk, Result}
use Rattle.ltm_io.specs.Folder.{Files}
use Rattle.ltm_routes_command.specs.Data.{ScenarioData}
use Rattle.ltm_casefile.specs.declared.faults.CaseFault.{CaseFault}
use Rattle.ltm_casefile.specs.declared.faults.CaseFault.TheVariants as fault
use Rattle.ltm_casefile.specs.Faults.{Agrees}
use Rattle.ltm_casefile.specs.Case.{case_of}
use Rattle.ltm_casefile.specs.KeptCase.{kept_case_of}
use Rattle.ltm_routes_command.specs.declared.lines.RouteLines.{RouteLines}
use Rattle.ltm_routes_command.specs.declared.lines.RouteLines.TheVariants as lines
use Rattle.ltm_routes_command.specs.Routing as routing
use Rattle.ltm_routes_command.specs.File.{IsSplitsFile, IsTimesFile}
use Rattle.ltm_command.specs.declared.words.Command.TheVariants as command
use Rattle.ltm_command.specs.declared.words.Report.{Report}
use Rattle.ltm_check_command.specs.declared.refusal.Refusal.{Refusal}
use Rattle.ltm_check_command.specs.declared.refusal.Refusal.TheVariants as refusal
use Rattle.ltm_check_command.specs.Loaded.{IsLoadingText}
use Rattle.ltm_check_command.specs.Checks.{AnswersRefusal}
use Rattle.ltm_command.specs.Answers.{Answers, AnswersFault, Describes, DescribesKept, Reports, IsRoutesFile}

pub report_told : (report : Report) (told : Option Files) (s : ScenarioData) (text : List ℕ) → Describes told (Ok s) → Reports report s text → Answers (command.Report report) told (Ok text)
report_told report told s text describes is = (Ok s, describes, (text, is, refl))

pub report_fault : (report : Report) (told : Option Files) (e : CaseFault) → IfSome told (λ files. Agrees (case_of files) e) → AnswersFault (command.Report report) told (refusal.Case e)
report_fault report told (fault.Folder f) agrees = tt
report_fault report told (fault.TooLong f) agrees = (Err (fault.TooLong f), agrees, refl)
report_fault report told (fault.Bad f row cause) agrees = (Err (fault.Bad f row cause), agrees, refl)
report_fault report told fault.NoHistory agrees = (Err fault.NoHistory, agrees, refl)
report_fault report told fault.NoMemory agrees = tt

-- where two facts are known of what was answered, so is what follows from both
pub joined : {A E : Type 0} (r : Result A E) (P Q R : A → Type 0) → ((x : A) → P x → Q x → R x) → IfOk r P → IfOk r Q → IfOk r R
joined (Ok x) P Q R follows p q = follows x p q
joined (Err e) P Q R follows p q = tt

pub routes_told : (which : RouteLines) (told : Option Files) (text : List ℕ) → routing.AnswersRoutes which told (Ok text) → IsRoutesFile which told text → Answers (command.Routes which) told (Ok text)
routes_told which told text says file = ((Ok text, says, refl), file)

-- a file of either kind is what it is to be
pub file_of : {A E : Type 0} (which : RouteLines) (told : Option Files) (bytes : A → List ℕ) (r : Result A E) → (which ≡ lines.Splits → IfOk r (λ x. IsSplitsFile told (bytes x)))
    → (which ≡ lines.Times → IfOk r (λ x. IsTimesFile told (bytes x))) → IfOk r (λ x. IsRoutesFile which told (bytes x))
file_of lines.Splits told bytes r splits times = splits refl
file_of lines.Times told bytes r splits times = times refl

pub routes_fault : (which : RouteLines) (told : Option Files) (e : CaseFault) → routing.AnswersFault which told e → AnswersFault (command.Routes which) told (refusal.Case e)
routes_fault which told (fault.Folder f) says = tt
routes_fault which told (fault.TooLong f) says = ((Err (fault.TooLong f), says, refl), tt)
routes_fault which told (fault.Bad f row cause) says = ((Err (fault.Bad f row cause), says, refl), tt)
routes_fault which told fault.NoHistory says = ((Err fault.NoHistory, says, refl), tt)
routes_fault which told fault.NoMemory says = tt

-- the curve file of the loading of a case
pub curves_told : (told : Option Files) (s : ScenarioData) (text : List ℕ) → DescribesKept told (Ok s) → IsLoadingText s text → Answers command.Curves told (Ok text)
curves_told told s text describes is = (Ok text, (Ok s, describes, (text, is, refl)), refl)

curves_refused : (told : Option Files) (e : CaseFault) → IfSome told (λ files. kept_case_of files ≡ Err e) → Answers command.Curves told (Err (refusal.Case e))
curves_refused told e describes = (Err e, (Err e, describes, refl), refl)

pub curves_fault : (told : Option Files) (e : CaseFault) → IfSome told (λ files. Agrees (kept_case_of files) e) → AnswersFault command.Curves told (refusal.Case e)
curves_fault told (fault.Folder f) agrees = tt
curves_fault told (fault.TooLong f) agrees = curves_refused told (fault.TooLong f) agrees
curves_fault told (fault.Bad f row cause) agrees = curves_refused told (fault.Bad f row cause) agrees
curves_fault told fault.NoHistory agrees = curves_refused told fault.NoHistory agrees
curves_fault told fault.NoMemory agrees = tt

pub check_fault : (told : Option Files) (e : Refusal) → AnswersRefusal told e → AnswersFault command.Check told e
check_fault told (refusal.Case (fault.Folder f)) says = tt
check_fault told (refusal.Case (fault.TooLong f)) says = says
check_fault told (refusal.Case (fault.Bad f row cause)) says = says
check_fault told (refusal.Case fault.NoHistory) says = says
check_fault told (refusal.Case fault.NoMemory) says = tt
check_fault told refusal.NoCurves says = tt
check_fault told refusal.LongCurves says = says
check_fault told (refusal.BadCurves row cause) says = says
check_fault told refusal.NoStart says = says
check_fault told (refusal.NoStep node slot) says = says
