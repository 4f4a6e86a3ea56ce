-- What a session writes, and with which status it ends.
use Rattle.std.specs.Prelude.{ℕ, ◌≡◌, ◌⊎◌, List, [], ◌++◌, Option, IfSome, Result, Ok, Err, Some}
use Rattle.ltm_io.specs.Folder.{Files}
use Rattle.ltm_io.specs.Sink.{appended}
use Rattle.ltm_scenario.specs.Data.{ScenarioData}
use Rattle.ltm_casefile.specs.declared.faults.CaseFault.{CaseFault}
use Rattle.ltm_report.specs.Refusals.{long_script_line, too_many_line}
use Rattle.ltm_session.specs.declared.ends.SessionEnd.{SessionEnd}
use Rattle.ltm_session.specs.declared.ends.SessionEnd.TheVariants as end
use Rattle.ltm_session.specs.Analysts.{Analysts, opening_state}
use Rattle.ltm_session.specs.Session.{Answering, AnswersLines, CameWhole, IsSession, end_of}
use Rattle.ltm_command.specs.declared.status.Status.{Status}
use Rattle.ltm_command.specs.declared.status.Status.TheVariants as ending
use Rattle.ltm_command.specs.Answers.{DescribesKept}
use Rattle.ltm_command.specs.Program.{case_status, refusal_of}
use Rattle.ltm_command.specs.Run.{Outside, LeavesInput}

-- the line that closes a session which its script ends early
abbrev pub closing_of : SessionEnd → List ℕ
closing_of end.Ended = []
closing_of end.ReadFault = []
closing_of end.WriteFault = []
closing_of (end.LineTooLong number) = long_script_line number
closing_of end.TooManyCommands = too_many_line
closing_of end.NoMemory = []

-- the status of an end
abbrev pub status_of_end : SessionEnd → Status
status_of_end end.Ended = ending.Ok
status_of_end end.ReadFault = ending.ReadFault
status_of_end end.WriteFault = ending.WriteFault
status_of_end (end.LineTooLong number) = ending.TooLong
status_of_end end.TooManyCommands = ending.TooManyCommands
status_of_end end.NoMemory = ending.NoMemory

-- what is written up to an end, by the outputs that belong to it: one of them, and the line that closes it
abbrev pub EndsUnder : (SessionEnd → List ℕ → Type 0) → Status → List ℕ → Type 0
EndsUnder IsOutput status text = (end : SessionEnd) × (output : List ℕ) × IsOutput end output
    × (status ≡ status_of_end end) × (text ≡ output ++ closing_of end)

-- the whole text that belongs to a status: the line that refuses the case, and then the input is unread, or what is written
-- of a case up to an end
abbrev pub IsCaseUnder : Type 0 → (ScenarioData → SessionEnd → List ℕ → Type 0) → Option Files → Status → List ℕ → Type 0
IsCaseUnder Unread IsOutput told status text =
    ((fault : CaseFault) × DescribesKept told (Err fault) × (status ≡ case_status fault) × (text ≡ refusal_of fault) × Unread)
    ⊎ ((s : ScenarioData) × DescribesKept told (Ok s) × EndsUnder (IsOutput s) status text)

-- which outputs may be written: by the script, what is left of it, the scenario, and up to an end
abbrev pub Outputs : Type 1
Outputs = Option (List ℕ) → Option (List ℕ) → ScenarioData → SessionEnd → List ℕ → Type 0

-- those of a session by this rule of answers
abbrev pub IsServed : Answering → Outputs
IsServed answers script left s end output = (t : Analysts) × IsSession answers (opening_state s 0) script left end output t

-- the whole text that belongs to a status, by which outputs may be written
abbrev pub IsServedUnder : Outputs → Outside → Outside → Status → List ℕ → Type 0
IsServedUnder IsOutput b a = IsCaseUnder (LeavesInput b a) (IsOutput b.left a.left) b.told

-- with which status a session ends where nothing of the outside fails and memory is found
abbrev pub session_status : Result ScenarioData CaseFault → List ℕ → Status
session_status (Ok s) script = status_of_end (end_of script)
session_status (Err fault) script = case_status fault

-- an output of a session of this scenario with the whole script was written, and the script was read to its end
abbrev pub ServesWhole : (ScenarioData → List ℕ → List ℕ → Type 0) → ScenarioData → Option (List ℕ) → Option (List ℕ) → Option (List ℕ) → Option (List ℕ) → Type 0
ServesWhole IsOutput s script left old new = IfSome script (λ lines. (output : List ℕ) × IsOutput s lines output
    × (new ≡ appended output old) × (left ≡ Some []))

-- exactly the lines that had come whole of the script were answered, by this rule, and their answers were written
abbrev pub ServesWhatCame : Answering → ScenarioData → Option (List ℕ) → Option (List ℕ) → Option (List ℕ) → Option (List ℕ) → Type 0
ServesWhatCame answers s script left old new = IfSome script (λ bytes. (lines : List (List ℕ)) × (output : List ℕ)
    × (t : Analysts) × CameWhole bytes left lines × AnswersLines answers (opening_state s 0) lines output t
    × (new ≡ appended output old))
