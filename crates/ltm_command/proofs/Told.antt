-- What belongs to a status of an answer, and that nothing else does where a file is missing.
use Rattle.std.proofs.Common.{ℕ, ◌≡◌, ◌≤◌, ◌⊎◌, inl, inr, refl, ap, sym, subst, ◌∙◌, List, length, Option, Some, Ok, Err, true}
use Rattle.std.specs.Prelude.{IfSome}
use Rattle.ltm_io.specs.declared.doc.Doc.{Doc}
use Rattle.ltm_io.specs.Folder.{Files}
use Rattle.ltm_io.specs.Faults.{Rose}
use Rattle.ltm_routes_command.specs.Data.{ScenarioData}
use Rattle.ltm_casefile.specs.declared.faults.File.{File}
use Rattle.ltm_casefile.specs.declared.faults.CaseCause.{CaseCause}
use Rattle.ltm_casefile.specs.declared.faults.CaseFault.{CaseFault}
use Rattle.ltm_casefile.specs.declared.faults.CaseFault.TheVariants as fault
use Rattle.ltm_report.specs.CaseFaults.{bad_case_line, no_history_line}
use Rattle.ltm_routes_command.specs.declared.lines.RouteLines.{RouteLines}
use Rattle.ltm_routes_command.specs.Routing.{RoutesAnswer}
use Rattle.ltm_routes_command.proofs.Missing.{missing_said}
use Rattle.ltm_command.specs.declared.status.Status.{Status}
use Rattle.ltm_command.specs.declared.status.Status.TheVariants as ending
use Rattle.ltm_command.specs.declared.words.Command.{Command}
use Rattle.ltm_command.specs.declared.words.Command.TheVariants as ask
use Rattle.ltm_command.specs.declared.words.Report.{Report}
use Rattle.ltm_try_command.specs.Trial.{IsTrial}
use Rattle.ltm_check.specs.Left.{records_of}
use Rattle.ltm_check.specs.ReadBack.{TellsLoading}
use Rattle.ltm_check_command.specs.declared.refusal.Refusal.{Refusal}
use Rattle.ltm_check_command.specs.declared.refusal.Refusal.TheVariants as refusal
use Rattle.ltm_check_command.specs.Lines.{yes_line}
use Rattle.ltm_check_command.specs.Loaded.{IsLoadingText}
use Rattle.ltm_check_command.specs.Checks.{HasCurves, most_bytes}
use Rattle.ltm_check_command.proofs.Exact.{yes_told, only_yes, missing_case, missing_curves}
use Rattle.ltm_command.specs.Answers.{Answer, Answers, AnswersFault, Describes, DescribesKept, Reports, IsRoutesFile, RouteAnswer, answer_of, fetches, ReportAnswer}
use Rattle.ltm_command.specs.Program.{status_of, words_of, refusal_status, IsTold, IsMissing, IsLong, IsAnswerUnder, Fetches, IsCalm}

-- a refusal of which a line tells is the answer
pub said_answers : (command : Command) (told : Option Files) (e : Refusal) → AnswersFault command told e → IsTold e → Answers command told (Err e)
said_answers command told (refusal.Case (fault.Folder f)) says is = absurd is
said_answers command told (refusal.Case (fault.TooLong f)) says is = says
said_answers command told (refusal.Case (fault.Bad f row cause)) says is = says
said_answers command told (refusal.Case fault.NoHistory) says is = says
said_answers command told (refusal.Case fault.NoMemory) says is = absurd is
said_answers command told refusal.NoCurves says is = absurd is
said_answers command told refusal.LongCurves says is = says
said_answers command told (refusal.BadCurves row cause) says is = says
said_answers command told refusal.NoStart says is = says
said_answers command told (refusal.NoStep node slot) says is = says

-- ---- the statuses that a refusal never has, and those of few refusals
pub never_ok : (e : Refusal) → ending.Ok ≡ refusal_status e → ⊥
never_ok (refusal.Case (fault.Folder f)) is = cc
never_ok (refusal.Case (fault.TooLong f)) is = cc
never_ok (refusal.Case (fault.Bad f row cause)) is = cc
never_ok (refusal.Case fault.NoHistory) is = cc
never_ok (refusal.Case fault.NoMemory) is = cc
never_ok refusal.NoCurves is = cc
never_ok refusal.LongCurves is = cc
never_ok (refusal.BadCurves row cause) is = cc
never_ok refusal.NoStart is = cc
never_ok (refusal.NoStep node slot) is = cc

pub never_usage : (e : Refusal) → ending.Usage ≡ refusal_status e → ⊥
never_usage (refusal.Case (fault.Folder f)) is = cc
never_usage (refusal.Case (fault.TooLong f)) is = cc
never_usage (refusal.Case (fault.Bad f row cause)) is = cc
never_usage (refusal.Case fault.NoHistory) is = cc
never_usage (refusal.Case fault.NoMemory) is = cc
never_usage refusal.NoCurves is = cc
never_usage refusal.LongCurves is = cc
never_usage (refusal.BadCurves row cause) is = cc
never_usage refusal.NoStart is = cc
never_usage (refusal.NoStep node slot) is = cc

pub never_read : (e : Refusal) → ending.ReadFault ≡ refusal_status e → ⊥
never_read (refusal.Case (fault.Folder f)) is = cc
never_read (refusal.Case (fault.TooLong f)) is = cc
never_read (refusal.Case (fault.Bad f row cause)) is = cc
never_read (refusal.Case fault.NoHistory) is = cc
never_read (refusal.Case fault.NoMemory) is = cc
never_read refusal.NoCurves is = cc
never_read refusal.LongCurves is = cc
never_read (refusal.BadCurves row cause) is = cc
never_read refusal.NoStart is = cc
never_read (refusal.NoStep node slot) is = cc

only_bad : (e : Refusal) → ending.BadCase ≡ refusal_status e → (f : File) × (row : ℕ) × (cause : CaseCause) × (e ≡ refusal.Case (fault.Bad f row cause))
only_bad (refusal.Case (fault.Folder f)) is = cc
only_bad (refusal.Case (fault.TooLong f)) is = cc
only_bad (refusal.Case (fault.Bad f row cause)) is = (f, row, cause, refl)
only_bad (refusal.Case fault.NoHistory) is = cc
only_bad (refusal.Case fault.NoMemory) is = cc
only_bad refusal.NoCurves is = cc
only_bad refusal.LongCurves is = cc
only_bad (refusal.BadCurves row cause) is = cc
only_bad refusal.NoStart is = cc
only_bad (refusal.NoStep node slot) is = cc

only_long : (e : Refusal) → ending.TooLong ≡ refusal_status e → IsLong e
only_long (refusal.Case (fault.Folder f)) is = cc
only_long (refusal.Case (fault.TooLong f)) is = tt
only_long (refusal.Case (fault.Bad f row cause)) is = cc
only_long (refusal.Case fault.NoHistory) is = cc
only_long (refusal.Case fault.NoMemory) is = cc
only_long refusal.NoCurves is = cc
only_long refusal.LongCurves is = tt
only_long (refusal.BadCurves row cause) is = cc
only_long refusal.NoStart is = cc
only_long (refusal.NoStep node slot) is = cc

-- ---- what belongs to a status
pub reported : (report : Report) (told : Option Files) (text : List ℕ) → IsAnswerUnder (ask.Report report) told ending.Ok text → (s : ScenarioData) × Describes told (Ok s) × Reports report s text
reported report told text (Ok t, (Ok s, describes, (u, is, same)), ok, at) =
    let equal : u ≡ text = cc in (s, describes, subst (Reports report s) equal is)
reported report told text (Ok t, (Err fault, describes, same), ok, at) = cc
reported report told text (Err e, says, ok, at) = absurd (never_ok e ok)

pub routed : (which : RouteLines) (told : Option Files) (text : List ℕ) → IsAnswerUnder (ask.Routes which) told ending.Ok text → IsRoutesFile which told text
routed which told text (Ok t, (says, file), ok, is) = subst (IsRoutesFile which told) (sym is) file
routed which told text (Err e, says, ok, is) = absurd (never_ok e ok)

curves_in : (told : Option Files) (text t : List ℕ) (s : ScenarioData) → DescribesKept told (Ok s) → IsLoadingText s t → t ≡ text → (s : ScenarioData) × DescribesKept told (Ok s) × IsLoadingText s text
curves_in told text t s describes is same = (s, describes, subst (IsLoadingText s) same is)

pub curves_loaded : (told : Option Files) (text : List ℕ) → IsAnswerUnder ask.Curves told ending.Ok text → (s : ScenarioData) × DescribesKept told (Ok s) × IsLoadingText s text
curves_loaded told text (Ok t, (Ok u, (Ok s, describes, (w, loading, same)), also), ok, is) = let equal : w ≡ text = cc in curves_in told text w s describes loading equal
curves_loaded told text (Ok t, (Ok u, (Err fault, describes, same), also), ok, is) = cc
curves_loaded told text (Ok t, (Err fault, says, also), ok, is) = cc
curves_loaded told text (Err e, says, ok, is) = absurd (never_ok e ok)

pub checked_yes : (told : Option Files) (text : List ℕ) → IsAnswerUnder ask.Check told ending.Ok text → (s : ScenarioData) × (bytes : List ℕ) × HasCurves told s bytes × TellsLoading s (records_of bytes) × (text ≡ yes_line)
checked_yes told text (Ok t, says, ok, is) = let h = yes_told told t says in (h.0, h.1, h.2, h.3, is ∙ h.4)
checked_yes told text (Err e, says, ok, is) = absurd (never_ok e ok)

pub tried : (start nodes : ℕ) (told : Option Files) (text : List ℕ) → IsAnswerUnder (ask.Try start nodes) told ending.Ok text → IsTrial start nodes text
tried start nodes told text (Ok t, (u, trial, same), ok, is) = let equal : u ≡ text = cc in subst (IsTrial start nodes) equal trial
tried start nodes told text (Err fault, (u, trial, same), ok, is) = absurd (cc)

pub bad_told : (command : Command) (told : Option Files) (text : List ℕ) → IsAnswerUnder command told ending.BadCase text
    → (f : File) × (row : ℕ) × (cause : CaseCause) × Answers command told (Err (refusal.Case (fault.Bad f row cause))) × (text ≡ bad_case_line f row cause)
bad_told command told text (Ok t, says, ok, is) = cc
bad_told command told text (Err e, says, ok, is) =
    let h = only_bad e ok in
    (h.0, h.1, h.2, subst (λ x. Answers command told (Err x)) h.3 says, is ∙ ap words_of h.3)

only_kept : (e : Refusal) → ending.NoHistory ≡ refusal_status e → e ≡ refusal.Case fault.NoHistory
only_kept (refusal.Case (fault.Folder f)) is = cc
only_kept (refusal.Case (fault.TooLong f)) is = cc
only_kept (refusal.Case (fault.Bad f row cause)) is = cc
only_kept (refusal.Case fault.NoHistory) is = refl
only_kept (refusal.Case fault.NoMemory) is = cc
only_kept refusal.NoCurves is = cc
only_kept refusal.LongCurves is = cc
only_kept (refusal.BadCurves row cause) is = cc
only_kept refusal.NoStart is = cc
only_kept (refusal.NoStep node slot) is = cc

pub kept_told : (command : Command) (told : Option Files) (text : List ℕ) → IsAnswerUnder command told ending.NoHistory text
    → Answers command told (Err (refusal.Case fault.NoHistory)) × (text ≡ no_history_line)
kept_told command told text (Ok t, says, ok, is) = cc
kept_told command told text (Err e, says, ok, is) =
    let h = only_kept e ok in
    (subst (λ x. Answers command told (Err x)) h says, is ∙ ap words_of h)

pub long_told : (command : Command) (told : Option Files) (text : List ℕ) → IsAnswerUnder command told ending.TooLong text
    → (e : Refusal) × IsLong e × Answers command told (Err e) × (text ≡ words_of e)
long_told command told text (Ok t, says, ok, is) = cc
long_told command told text (Err e, says, ok, is) = (e, only_long e ok, says, is)

pub no_usage : (command : Command) (told : Option Files) (text : List ℕ) → IsAnswerUnder command told ending.Usage text → ⊥
no_usage command told text (Ok t, says, ok, is) = cc
no_usage command told text (Err e, says, ok, is) = never_usage e ok

-- ---- with no fault of the outside
pub failed_in_calm : (command : Command) (told : Option Files) (files : Files) (before now : Doc → ℕ) → told ≡ Some files → IsCalm command files before now
    → (d : Doc) × Fetches command told d × Rose (before d) (now d) → ⊥
failed_in_calm command told files before now is calm (d, may, rose) = calm d (subst (λ o. IfSome o (λ fs. fetches command fs d ≡ true)) is may.1) rose

pub told_answer : (command : Command) (told : Option Files) (files : Files) (result : Status) → told ≡ Some files → (text : List ℕ) × IsAnswerUnder command told result text
    → (answer : Answer) × Answers command (Some files) answer × (result ≡ status_of answer)
told_answer command told files result is (text, (answer, says, status, text_is)) = (answer, subst (λ o. Answers command o answer) is says, status)

-- where the curve file tells the loading, nothing but yes is answered
pub says_yes : (files : Files) (s : ScenarioData) (bytes : List ℕ) (result : Status) → HasCurves (Some files) s bytes → length bytes ≤ most_bytes → TellsLoading s (records_of bytes)
    → ((answer : Answer) × Answers ask.Check (Some files) answer × (result ≡ status_of answer)) ⊎ (result ≡ ending.NoMemory) → (result ≡ ending.Ok) ⊎ (result ≡ ending.NoMemory)
says_yes files s bytes result has few tells (inl (answer, says, is)) = inl (is ∙ ap status_of (only_yes files s bytes answer has few tells says))
says_yes files s bytes result has few tells (inr none) = inr none

-- ---- a file that is missing
case_only : (e : Refusal) (f : CaseFault) → IsMissing e → answer_of (Err f) ≡ Err e → (x : File) × (e ≡ refusal.Case (fault.Folder x)) × (f ≡ fault.Folder x)
case_only e (fault.Folder x) missing same = (x, cc, refl)
case_only e (fault.TooLong x) missing same = let is : e ≡ refusal.Case (fault.TooLong x) = cc in absurd (subst IsMissing is missing)
case_only e (fault.Bad x row cause) missing same = let is : e ≡ refusal.Case (fault.Bad x row cause) = cc in absurd (subst IsMissing is missing)
case_only e fault.NoHistory missing same = let is : e ≡ refusal.Case fault.NoHistory = cc in absurd (subst IsMissing is missing)
case_only e fault.NoMemory missing same = let is : e ≡ refusal.Case fault.NoMemory = cc in absurd (subst IsMissing is missing)

report_missing : (Reports : ScenarioData → List ℕ → Type 0) (files : Files) (e : Refusal) (answer : Answer) → IsMissing e
    → ReportAnswer Reports (Some files) (Err e) → ReportAnswer Reports (Some files) answer → answer ≡ Err e
report_missing Reports files e answer missing (Ok s, describes, (text, report, same)) other = cc
report_missing Reports files e answer missing (Err fault, describes, same) (Ok s, also, says) = cc
report_missing Reports files e answer missing (Err fault, describes, same) (Err f, also, is) = cc

routes_missing : (which : RouteLines) (files : Files) (e : Refusal) (answer : Answer) → IsMissing e → RouteAnswer which (Some files) (Err e) → RouteAnswer which (Some files) answer → answer ≡ Err e
routes_missing which files e answer missing (Ok text, says, same) other = cc
routes_missing which files e answer missing (Err f, (said, describes, says), same) (again, (also_said, also, more), is) =
    let one = case_only e f missing (sym same) in
    let first : said ≡ Err (fault.Folder one.0) = missing_said which said one.0 (subst (λ x. RoutesAnswer which said (Err x)) one.2 says) in
    let second : also_said ≡ Err (fault.Folder one.0) = sym also ∙ describes ∙ first in
    let third : again ≡ Err (fault.Folder one.0) = subst (λ r. RoutesAnswer which r again) second more in
    is ∙ ap answer_of third ∙ ap (λ x. Err x) (sym one.1)

curves_missing : (files : Files) (e : Refusal) (answer : Answer) → IsMissing e → Answers ask.Curves (Some files) (Err e) → Answers ask.Curves (Some files) answer → answer ≡ Err e
curves_missing files e answer missing (Ok text, says, same) other = cc
curves_missing files e answer missing (Err f, (Ok s, describes, (text, loading, is)), same) other = cc
curves_missing files e answer missing (Err f, (Err g, describes, is), same) (said, (Ok s, also, says), at) = cc
curves_missing files e answer missing (Err f, (Err g, describes, is), same) (said, (Err h, also, says), at) =
    let first : Err g ≡ Err h = sym describes ∙ also in
    let second : g ≡ h = cc in
    let third : f ≡ g = cc in
    at ∙ ap answer_of says ∙ ap (λ x. Err (refusal.Case x)) (sym second ∙ sym third) ∙ sym same

check_missing : (files : Files) (e : Refusal) (answer : Answer) → IsMissing e → Answers ask.Check (Some files) (Err e) → Answers ask.Check (Some files) answer → answer ≡ Err e
check_missing files (refusal.Case (fault.Folder f)) answer missing says other = missing_case files (fault.Folder f) answer says other
check_missing files (refusal.Case (fault.TooLong f)) answer missing says other = absurd missing
check_missing files (refusal.Case (fault.Bad f row cause)) answer missing says other = absurd missing
check_missing files (refusal.Case fault.NoHistory) answer missing says other = absurd missing
check_missing files (refusal.Case fault.NoMemory) answer missing says other = absurd missing
check_missing files refusal.NoCurves answer missing says other = missing_curves files answer says other
check_missing files refusal.LongCurves answer missing says other = absurd missing
check_missing files (refusal.BadCurves row cause) answer missing says other = absurd missing
check_missing files refusal.NoStart answer missing says other = absurd missing
check_missing files (refusal.NoStep node slot) answer missing says other = absurd missing

pub only_missing : (command : Command) (told : Option Files) (files : Files) (e : Refusal) (answer : Answer) → told ≡ Some files → IsMissing e → Answers command (Some files) (Err e) → Answers command told answer → answer ≡ Err e
only_missing (ask.Report report) told files e answer is missing none says = report_missing (Reports report) files e answer missing none (subst (λ o. Answers (ask.Report report) o answer) is says)
only_missing (ask.Routes which) told files e answer is missing none says = routes_missing which files e answer missing none.0 (subst (λ o. Answers (ask.Routes which) o answer) is says).0
only_missing (ask.Try start nodes) told files e answer is missing (text, trial, same) says = absurd (cc)
only_missing ask.Curves told files e answer is missing none says = curves_missing files e answer missing none (subst (λ o. Answers ask.Curves o answer) is says)
only_missing ask.Check told files e answer is missing none says = check_missing files e answer missing none (subst (λ o. Answers ask.Check o answer) is says)
only_missing c told files e answer is missing none says = absurd none

missing_only : (e : Refusal) → ending.FolderFault ≡ refusal_status e → IsMissing e
missing_only (refusal.Case (fault.Folder f)) is = tt
missing_only (refusal.Case (fault.TooLong f)) is = cc
missing_only (refusal.Case (fault.Bad f row cause)) is = cc
missing_only (refusal.Case fault.NoHistory) is = cc
missing_only (refusal.Case fault.NoMemory) is = cc
missing_only refusal.NoCurves is = tt
missing_only refusal.LongCurves is = cc
missing_only (refusal.BadCurves row cause) is = cc
missing_only refusal.NoStart is = cc
missing_only (refusal.NoStep node slot) is = cc

-- so no other status has a text
pub only_lacking : (command : Command) (told : Option Files) (files : Files) (due : Status) (t u : List ℕ) → told ≡ Some files
    → IsAnswerUnder command told ending.FolderFault t → IsAnswerUnder command told due u → due ≡ ending.FolderFault
only_lacking command told files due t u is (Ok v, none, ends, at) other = absurd (cc)
only_lacking command told files due t u is (Err e, none, ends, at) (answer, says, under, also) =
    let missing = missing_only e ends in
    let same : answer ≡ Err e = only_missing command told files e answer is missing (subst (λ o. Answers command o (Err e)) is none) says in
    under ∙ ap status_of same ∙ sym ends

-- what is told of a missing file
pub missing_is : (e : Refusal) → IsMissing e → ending.FolderFault ≡ refusal_status e
missing_is (refusal.Case (fault.Folder f)) is = refl
missing_is (refusal.Case (fault.TooLong f)) is = absurd is
missing_is (refusal.Case (fault.Bad f row cause)) is = absurd is
missing_is (refusal.Case fault.NoHistory) is = absurd is
missing_is (refusal.Case fault.NoMemory) is = absurd is
missing_is refusal.NoCurves is = refl
missing_is refusal.LongCurves is = absurd is
missing_is (refusal.BadCurves row cause) is = absurd is
missing_is refusal.NoStart is = absurd is
missing_is (refusal.NoStep node slot) is = absurd is

-- a line tells of no missing file
pub told_given : (e : Refusal) → IsTold e → refusal_status e ≡ ending.FolderFault → ⊥
told_given (refusal.Case (fault.Folder f)) told is = absurd told
told_given (refusal.Case (fault.TooLong f)) told is = cc
told_given (refusal.Case (fault.Bad f row cause)) told is = cc
told_given (refusal.Case fault.NoHistory) told is = cc
told_given (refusal.Case fault.NoMemory) told is = cc
told_given refusal.NoCurves told is = absurd told
told_given refusal.LongCurves told is = cc
told_given (refusal.BadCurves row cause) told is = cc
told_given refusal.NoStart told is = cc
told_given (refusal.NoStep node slot) told is = cc
