-- A session whose core is behind a turn: what was answered, between what its editor knew of the machine before and knows after.
use Rattle.std.specs.Prelude.{◌≡◌, ℕ, ◌≤◌, List, [], Option, Some, Result}
use Rattle.ltm_script.specs.declared.command.Command.{Command}
use Rattle.ltm_script.specs.declared.command.CommandFault.{CommandFault}
use Rattle.ltm_core.specs.declared.entry.LogEntry.{LogEntry}
use Rattle.ltm_core.specs.Log.{version_now}
use Rattle.ltm_core.specs.Told.{TellsLog, marks_in}
use Rattle.ltm_session.specs.declared.ends.SessionEnd.{SessionEnd}
use Rattle.ltm_session.specs.declared.ends.SessionEnd.TheVariants.{Ended}
use Rattle.ltm_session.specs.Analysts.{Analysts}
use Rattle.ltm_session.specs.Answers.{AnswersBeside}
use Rattle.ltm_session.specs.Session.{AnswersLine, IsSession, Wrote}
use Rattle.ltm_session.specs.Serving.{StopsAt}

-- the machine as an editor knows it, by the list that it last left and the greatest number that it has seen
pub record IsKnown (s : Analysts) (list : List LogEntry) (seen : ℕ) : Type 0 where
  pub log_is : TellsLog list s.log
  pub settles_are : marks_in list ≡ s.settles
  pub seen_is : s.shown ≤ seen
  pub finished : s.shown ≤ version_now s.log

-- what a line was read as was answered: from any machine that was known to one that is known now
unfoldable pub SaidBeside : Result Command CommandFault → List ℕ → List LogEntry → ℕ → List LogEntry → ℕ → Type 0
SaidBeside said text list seen list' seen' = (s : Analysts) → IsKnown s list seen → (t : Analysts) × AnswersBeside s said text t × IsKnown t list' seen'

-- a line was answered
unfoldable pub LineBeside : List ℕ → List ℕ → List LogEntry → ℕ → List LogEntry → ℕ → Type 0
LineBeside line text list seen list' seen' = (s : Analysts) → IsKnown s list seen → (t : Analysts) × AnswersLine AnswersBeside s line text t × IsKnown t list' seen'

-- a session stopped at a line
unfoldable pub StopsBeside : List ℕ → SessionEnd → Option (List ℕ) → Option (List ℕ) → List LogEntry → ℕ → List LogEntry → ℕ → Type 0
StopsBeside line end old new list seen list' seen' = (s : Analysts) → IsKnown s list seen →
    (t : Analysts) × StopsAt AnswersBeside s line t end old new × IsKnown t list' seen'

-- a session was served, from any machine that was known to one that is known now
unfoldable pub SessionBeside : Option (List ℕ) → Option (List ℕ) → SessionEnd → Option (List ℕ) → Option (List ℕ) → List LogEntry → ℕ → List LogEntry → ℕ → Type 0
SessionBeside told left end old new list seen list' seen' = (s : Analysts) → IsKnown s list seen →
    (output : List ℕ) × (t : Analysts) × IsSession AnswersBeside s told left end output t × Wrote end old new output × IsKnown t list' seen'

-- with Ended a script that is told was read to its end
unfoldable pub ReadsAll : Option (List ℕ) → SessionEnd → Option (List ℕ) → Type 0
ReadsAll told end left = (script : List ℕ) → told ≡ Some script → end ≡ Ended → left ≡ Some []
