-- What is written to a script that viewers look on at, and how that ends.
use Rattle.std.specs.Prelude.{ℕ, ◌≡◌, ◌⊎◌, List, [], ◌++◌, Option}
use Rattle.ltm_io.specs.Script.{lines_of}
use Rattle.ltm_scenario.specs.Data.{ScenarioData}
use Rattle.ltm_session.specs.declared.ends.SessionEnd.{SessionEnd}
use Rattle.ltm_session.specs.declared.ends.SessionEnd.TheVariants.{Ended, ReadFault, WriteFault, LineTooLong, TooManyCommands, NoMemory}
use Rattle.ltm_session.specs.Analysts.{Analysts, opening_state}
use Rattle.ltm_session.specs.Answers.{AnswersAlone}
use Rattle.ltm_session.specs.Session.{AnswersLines, IsSession}
use Rattle.ltm_session_viewers.specs.Lines.{ViewersTell}

-- an output with so many viewers: the answers to the whole script, as a session without workers gives them, and then the
-- totals of the loading that the last settle has shown, told by each viewer
abbrev pub IsViewOutput : ℕ → ScenarioData → List ℕ → List ℕ → Type 0
IsViewOutput viewers s script output = (t : Analysts) × (answers lines : List ℕ) × AnswersLines AnswersAlone (opening_state s 0) (lines_of script) answers t
    × ViewersTell viewers t lines × (output ≡ answers ++ lines)

-- how it ends with viewers after the session ended so, and what they tell: they tell it where the script was read to its end
abbrev pub ClosesView : ℕ → Analysts → SessionEnd → SessionEnd → List ℕ → Type 0
ClosesView viewers t Ended end lines = ViewersTell viewers t lines × ((end ≡ Ended) ⊎ ((end ≡ WriteFault) ⊎ (end ≡ NoMemory)))
ClosesView viewers t ReadFault end lines = (end ≡ ReadFault) × (lines ≡ [])
ClosesView viewers t WriteFault end lines = (end ≡ WriteFault) × (lines ≡ [])
ClosesView viewers t (LineTooLong number) end lines = (end ≡ LineTooLong number) × (lines ≡ [])
ClosesView viewers t TooManyCommands end lines = (end ≡ TooManyCommands) × (lines ≡ [])
ClosesView viewers t NoMemory end lines = (end ≡ NoMemory) × (lines ≡ [])

-- a session with viewers that began with this machine answered the first lines of a script and ended so; where a read failed,
-- those that had come whole
pub record IsView (viewers : ℕ) (s : Analysts) (told left : Option (List ℕ)) (end : SessionEnd) (output : List ℕ) (t : Analysts) : Type 0 where
  pub session_end : SessionEnd
  pub answers : List ℕ
  pub lines : List ℕ
  pub session : IsSession AnswersAlone s told left session_end answers t
  pub closes : ClosesView viewers t session_end end lines
  pub output_is : output ≡ answers ++ lines
