-- What a session answers to a script, and how it ends.
use Rattle.std.specs.Prelude.{◌≡◌, ◌⊎◌, ℕ, ◌+◌, ◌<◌, ◌≤◌, nat_le, nat_lt, if◌then◌else◌, List, [], ◌∷◌, ◌++◌, length, All, Option, Some, IfSome, Result}
use Rattle.ltm_io.specs.Sink.{appended, AppendsFront}
use Rattle.ltm_io.specs.Script.{lines_of, whole_lines}
use Rattle.ltm_scenario.specs.Data.{ScenarioData}
use Rattle.ltm_script.specs.Line.{reading}
use Rattle.ltm_script.specs.declared.command.Command.{Command}
use Rattle.ltm_script.specs.declared.command.CommandFault.{CommandFault}
use Rattle.ltm_session.specs.declared.ends.SessionEnd.{SessionEnd}
use Rattle.ltm_session.specs.declared.ends.SessionEnd.TheVariants.{Ended, ReadFault, WriteFault, LineTooLong, TooManyCommands, NoMemory}
use Rattle.ltm_session.specs.Analysts.{Analysts, opening_state}
use Rattle.ltm_session.specs.Answers.{AnswersAlone, AnswersBeside}

-- a rule of answers
abbrev pub Answering : Type 1
Answering = Analysts → Result Command CommandFault → List ℕ → Analysts → Type 0

-- a line is answered as it is read
abbrev pub AnswersLine : Answering → Analysts → List ℕ → List ℕ → Analysts → Type 0
AnswersLine answers s line text t = answers s (reading line) text t

-- these lines are answered in order; the answers stand one behind another
abbrev pub AnswersLines : Answering → Analysts → List (List ℕ) → List ℕ → Analysts → Type 0
AnswersLines answers s [] output t = (output ≡ []) × (t ≡ s)
AnswersLines answers s (line ∷ lines) output t = (u : Analysts) × (text : List ℕ) × (rest : List ℕ)
    × AnswersLine answers s line text u × AnswersLines answers u lines rest t × (output ≡ text ++ rest)

-- an output of a session of this scenario with this script, beside any number of workers
abbrev pub IsSessionOutput : ScenarioData → List ℕ → List ℕ → Type 0
IsSessionOutput s script output = (t : Analysts) × AnswersLines AnswersBeside (opening_state s 0) (lines_of script) output t

-- the same without workers
abbrev pub IsOutputAlone : ScenarioData → List ℕ → List ℕ → Type 0
IsOutputAlone s script output = (t : Analysts) × AnswersLines AnswersAlone (opening_state s 0) (lines_of script) output t

-- ---- how a session ends
abbrev pub longest_line : ℕ
longest_line = 65536

abbrev pub most_lines : ℕ
most_lines = 100000

-- the next line is too long
abbrev pub IsLongNext : List (List ℕ) → Type 0
IsLongNext [] = ⊥
IsLongNext (line ∷ lines) = longest_line < length line

-- what an end says of the lines that are left after so many answered ones
abbrev pub EndsBefore : SessionEnd → ℕ → List (List ℕ) → Type 0
EndsBefore Ended answered left = left ≡ []
EndsBefore (LineTooLong number) answered left = (number ≡ answered + 1) × (answered < most_lines) × IsLongNext left
EndsBefore TooManyCommands answered left = (answered ≡ most_lines) × (0 < length left)
EndsBefore ReadFault answered left = Unit {0}
EndsBefore WriteFault answered left = Unit {0}
EndsBefore NoMemory answered left = Unit {0}

-- how a session ends after so many answered lines, where nothing fails
abbrev pub end_from : ℕ → List (List ℕ) → SessionEnd
end_from answered [] = Ended
end_from answered (line ∷ lines) =
    if nat_le most_lines answered then TooManyCommands
    else if nat_lt longest_line (length line) then LineTooLong (answered + 1)
    else end_from (answered + 1) lines

-- how a session ends with this script, where nothing fails
abbrev pub end_of : List ℕ → SessionEnd
end_of script = end_from 0 (lines_of script)

-- the lines of a script that had come whole where so much of it is left: those that a newline ends of what came, and where
-- nothing is left maybe the last line too, which needs none
abbrev pub CameWhole : List ℕ → Option (List ℕ) → List (List ℕ) → Type 0
CameWhole script left lines = (came rest : List ℕ) × (script ≡ came ++ rest) × (left ≡ Some rest)
    × ((lines ≡ whole_lines came) ⊎ ((rest ≡ []) × (lines ≡ lines_of script)))

-- a session that began with this machine answered the first lines of a script and ended so; where a read failed, those that
-- had come whole
pub record IsSession (answers : Answering) (s : Analysts) (told left : Option (List ℕ)) (end : SessionEnd) (output : List ℕ) (t : Analysts) : Type 0 where
  pub answered : List (List ℕ)
  pub few : length answered ≤ most_lines
  pub fit : All (λ line. length line ≤ longest_line) answered
  pub runs : AnswersLines answers s answered output t
  pub ends : IfSome told (λ script. (left : List (List ℕ)) × (lines_of script ≡ answered ++ left) × EndsBefore end (length answered) left)
  pub came : end ≡ ReadFault → IfSome told (λ script. CameWhole script left answered)

-- what was written of an output: all of it, or a front where the writing or the memory failed
abbrev pub Wrote : SessionEnd → Option (List ℕ) → Option (List ℕ) → List ℕ → Type 0
Wrote Ended old new output = new ≡ appended output old
Wrote (LineTooLong number) old new output = new ≡ appended output old
Wrote TooManyCommands old new output = new ≡ appended output old
Wrote ReadFault old new output = new ≡ appended output old
Wrote WriteFault old new output = AppendsFront old new output
Wrote NoMemory old new output = AppendsFront old new output
