-- What belongs to each command: its texts, its files, and whether it reads the input; and so what a run of it did.
use Rattle.std.specs.Prelude.{ℕ, zero, suc, ◌≡◌, nat_lt, if◌then◌else◌, Bool, true, false, List, Option, None, Some}
use Rattle.ltm_io.specs.declared.doc.Doc.{Doc}
use Rattle.ltm_io.specs.Folder.{Files}
use Rattle.ltm_session.specs.Answers.{AnswersAlone, AnswersBeside}
use Rattle.ltm_session.specs.Session.{Answering}
use Rattle.ltm_session_editors.specs.Answers.{MayAsk}
use Rattle.ltm_command.specs.declared.status.Status.{Status}
use Rattle.ltm_command.specs.declared.status.Status.TheVariants as ending
use Rattle.ltm_command.specs.declared.words.Command.{Command}
use Rattle.ltm_command.specs.declared.words.Command.TheVariants as command
use Rattle.ltm_command.specs.Words.{usage_line}
use Rattle.ltm_command.specs.Program.{IsAnswerUnder, Fetches, FetchesCase}
use Rattle.ltm_command.specs.Run.{Outside, IsRun}
use Rattle.ltm_program.specs.Sessions.{IsServed, IsServedUnder}
use Rattle.ltm_program.specs.Views.{IsViewed}
use Rattle.ltm_program.specs.Editors.{IsEditingUnder}

-- the rule of answers of a session with so many workers
abbrev pub rule_of : ℕ → Answering
rule_of zero = AnswersAlone
rule_of (suc workers) = AnswersBeside

-- the whole text that belongs to a command and a status, by how the outside stands before and after
abbrev pub IsTextUnder : Option Command → Outside → Outside → Status → List ℕ → Type 0
IsTextUnder None b a status t = (status ≡ ending.Usage) × (t ≡ usage_line)
IsTextUnder (Some (command.Session workers)) b a status t = IsServedUnder (IsServed (rule_of workers)) b a status t
IsTextUnder (Some (command.View viewers)) b a status t = IsServedUnder (IsViewed viewers) b a status t
IsTextUnder (Some (command.Editors editors)) b a status t = IsEditingUnder editors b.told status t
IsTextUnder (Some c) b a status t = IsAnswerUnder c b.told status t

-- a command may fetch the file
abbrev pub MayFetch : Option Command → Option Files → Doc → Type 0
MayFetch None told d = ⊥
MayFetch (Some (command.Session workers)) told d = FetchesCase told d
MayFetch (Some (command.View viewers)) told d = FetchesCase told d
MayFetch (Some (command.Editors editors)) told d = MayAsk told editors d
MayFetch (Some c) told d = Fetches c told d

-- a command reads the input
abbrev pub ReadsInput : Option Command → Type 0
ReadsInput (Some (command.Session workers)) = Unit {0}
ReadsInput (Some (command.View viewers)) = Unit {0}
ReadsInput c = ⊥

-- a command cannot do without threads
abbrev pub needs_threads : Option Command → Bool
needs_threads (Some (command.Session workers)) = nat_lt 0 workers
needs_threads (Some (command.View viewers)) = true
needs_threads (Some (command.Editors editors)) = true
needs_threads c = false

-- what is left to ask for where no thread may be started
abbrev pub without_threads : Option Command → Option Command
without_threads c = if needs_threads c then None else c

-- a command, or words that ask for none, ran: the status, and how the outside stands before and after
abbrev pub Ran : Option Command → Status → Outside → Outside → Type 0
Ran c status b a = IsRun (IsTextUnder c b a) (MayFetch c b.told) (ReadsInput c) status b a
