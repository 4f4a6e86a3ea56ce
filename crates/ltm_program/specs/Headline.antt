-- What the README promises of sessions, of the whole program.
use Rattle.std.specs.Prelude.{ℕ, ◌≡◌, ◌⊎◌, List, ◌++◌, take, IfSome, Some, Ok}
use Rattle.ltm_io.specs.Script.{lines_of}
use Rattle.ltm_scenario.specs.Data.{ScenarioData}
use Rattle.ltm_casefile.specs.KeptCase.{kept_case_of}
use Rattle.ltm_session.specs.declared.ends.SessionEnd.{SessionEnd}
use Rattle.ltm_session.specs.Promise.{KeepsPromise, KeepsPromiseSoFar}
use Rattle.ltm_command.specs.declared.status.Status.{Status}
use Rattle.ltm_command.specs.declared.status.Status.TheVariants as ending
use Rattle.ltm_command.specs.declared.words.Command.TheVariants as command
use Rattle.ltm_command.specs.Answers.{DescribesKept}
use Rattle.ltm_command.specs.Run.{Outside}
use Rattle.ltm_program.specs.Sessions.{closing_of}
use Rattle.ltm_program.specs.Ran.{Ran}
use Rattle.ltm_program.specs.RanLaws.{Wrote}

-- a session that ends well has answered the whole script and kept the promise, and the answers were written
abbrev pub Headline : Type 0
Headline = (b a : Outside) (workers : ℕ) → Ran (Some (command.Session workers)) ending.Ok b a
    → (s : ScenarioData) × DescribesKept b.told (Ok s)
    × IfSome b.left (λ script. (output : List ℕ) × KeepsPromise s (lines_of script) output × Wrote output b a)

-- of a session that viewers look on at and that ends well, the answers before the viewers' lines keep it too
abbrev pub HeadlineOfViews : Type 0
HeadlineOfViews = (b a : Outside) (viewers : ℕ) → Ran (Some (command.View viewers)) ending.Ok b a
    → (s : ScenarioData) × DescribesKept b.told (Ok s)
    × IfSome b.left (λ script. (answers lines : List ℕ) × KeepsPromise s (lines_of script) answers
    × Wrote (answers ++ lines) b a)

-- whatever stops a session of a case, what it wrote is nothing, or keeps the promise so far, and then a front of
-- the line that closes it
abbrev pub HeadlineOfFronts : Type 0
HeadlineOfFronts = (b a : Outside) (workers : ℕ) (status : Status) → Ran (Some (command.Session workers)) status b a
    → IfSome b.told (λ files. (s : ScenarioData) → kept_case_of files ≡ Ok s
    → (a.written ≡ b.written) ⊎ ((t : List ℕ) × (end : SessionEnd) × (n : ℕ) × KeepsPromiseSoFar s b.left t
    × Wrote (t ++ take n (closing_of end)) b a))
