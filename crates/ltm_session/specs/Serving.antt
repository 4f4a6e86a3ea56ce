-- How far a session has come.
use Rattle.std.specs.Prelude.{◌≡◌, ◌⊎◌, ℕ, ◌≤◌, List, [], ◌++◌, length, All, Option, None, Some}
use Rattle.ltm_io.specs.Sink.{appended, AppendsFront}
use Rattle.ltm_io.specs.Script.{lines_of, whole_lines}
use Rattle.ltm_session.specs.declared.ends.SessionEnd.{SessionEnd}
use Rattle.ltm_session.specs.declared.ends.SessionEnd.TheVariants.{Ended, ReadFault, WriteFault, NoMemory}
use Rattle.ltm_session.specs.Analysts.{Analysts}
use Rattle.ltm_session.specs.Session.{Answering, AnswersLine, AnswersLines, EndsBefore, CameWhole, longest_line}

-- these lines come whole before whatever comes behind
abbrev pub Begins : List ℕ → List (List ℕ) → Type 0
Begins front lines = (more : List ℕ) → whole_lines (front ++ more) ≡ lines ++ whole_lines more

-- these lines were read of a script, and the rest is coming, where it is told; a newline ended each, or none is left
abbrev pub HasRead : Option (List ℕ) → Option (List ℕ) → List (List ℕ) → Type 0
HasRead None coming answered = Unit {0}
HasRead (Some script) coming answered = (front rest : List ℕ) × (script ≡ front ++ rest) × (coming ≡ Some rest)
    × (lines_of script ≡ answered ++ lines_of rest) × (Begins front answered ⊎ (rest ≡ []))

-- so many lines were read and answered, what is written is their answers, and the machine stands so
pub record IsServing (answers : Answering) (s : Analysts) (told coming written new : Option (List ℕ)) (count : ℕ) (t : Analysts) : Type 0 where
  pub answered : List (List ℕ)
  pub output : List ℕ
  pub counted : length answered ≡ count
  pub fit : All (λ line. length line ≤ longest_line) answered
  pub runs : AnswersLines answers s answered output t
  pub read : HasRead told coming answered
  pub wrote : new ≡ appended output written

-- what an end says of the script that is coming, after so many answered lines, and of what is left in the source after it
abbrev pub EndsIfTold : SessionEnd → ℕ → Option (List ℕ) → Option (List ℕ) → Type 0
EndsIfTold end answered None left = Unit {0}
EndsIfTold end answered (Some script) left = EndsBefore end answered (lines_of script) × (end ≡ Ended → left ≡ Some [])
    × (end ≡ ReadFault → CameWhole script left [])

-- a session stopped at a line: nothing was done, or it was answered and a front of the answer was written
abbrev pub StopsAt : Answering → Analysts → List ℕ → Analysts → SessionEnd → Option (List ℕ) → Option (List ℕ) → Type 0
StopsAt answers s line t end old new = ((end ≡ WriteFault) ⊎ (end ≡ NoMemory))
    × (((t ≡ s) × (new ≡ old)) ⊎ ((text : List ℕ) × AnswersLine answers s line text t × AppendsFront old new text))
