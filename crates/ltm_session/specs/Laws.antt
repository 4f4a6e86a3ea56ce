-- What holds of the outputs of sessions.
use Rattle.std.specs.Prelude.{◌≡◌, ℕ, ◌+◌, List, [], ◌∷◌, take, All, Option, Result, Ok}
use Rattle.std.specs.List.{concat}
use Rattle.ltm_io.specs.Script.{lines_of}
use Rattle.ltm_scenario.specs.Data.{ScenarioData}
use Rattle.ltm_script.specs.Line.{reading}
use Rattle.ltm_script.specs.declared.command.Command.{Command}
use Rattle.ltm_script.specs.declared.command.Command.TheVariants as command
use Rattle.ltm_script.specs.declared.command.CommandFault.{CommandFault}
use Rattle.ltm_session.specs.declared.ends.SessionEnd.{SessionEnd}
use Rattle.ltm_session.specs.Analysts.{Analysts, opening_state}
use Rattle.ltm_session.specs.Answers.{AnswersAlone, AnswersBeside}
use Rattle.ltm_session.specs.Session.{Answering, AnswersLines, IsSession, IsSessionOutput, IsOutputAlone}
use Rattle.ltm_session.specs.OneLine.{IsOneLine, texts_of}
use Rattle.ltm_session.specs.Promise.{texts_in, KeepsPromise, KeepsPromiseSoFar}

-- an output of a session without workers is one of a session
abbrev pub AloneIsASession : Type 0
AloneIsASession = (s : ScenarioData) (script output : List ℕ)
    → IsOutputAlone s script output → IsSessionOutput s script output

-- without workers a scenario and a script have one output
abbrev pub OneOutput : Type 0
OneOutput = (s : ScenarioData) (script a b : List ℕ) → IsOutputAlone s script a → IsOutputAlone s script b → a ≡ b

-- ---- settles
-- how many of these lines settle
abbrev pub settle_said : Result Command CommandFault → ℕ
settle_said (Ok command.Settle) = 1
settle_said other = 0

abbrev pub settling : List (List ℕ) → ℕ
settling [] = 0
settling (line ∷ lines) = settle_said (reading line) + settling lines

-- lines that were answered were counted: one settle more for each of them that settles
abbrev pub CountsEach : Answering → Type 0
CountsEach answers = (s t : Analysts) (lines : List (List ℕ)) (output : List ℕ)
    → AnswersLines answers s lines output t → t.settles ≡ s.settles + settling lines

pub record LinesSettleOnce : Type 0 where
  pub beside : CountsEach AnswersBeside
  pub alone : CountsEach AnswersAlone

-- ---- the promise
-- whole outputs keep it: those of sessions beside any number of workers, and those without
pub record OutputsKeepThePromise : Type 0 where
  pub beside : (s : ScenarioData) (script output : List ℕ)
      → IsSessionOutput s script output → KeepsPromise s (lines_of script) output
  pub alone : (s : ScenarioData) (script output : List ℕ)
      → IsOutputAlone s script output → KeepsPromise s (lines_of script) output

-- whatever front was written of what a session by a rule answered keeps it so far, however the session ended
abbrev pub FrontsKeepIt : Answering → Type 0
FrontsKeepIt answers =
    (s : ScenarioData) (settles : ℕ) (told left : Option (List ℕ)) (end : SessionEnd) (output : List ℕ) (t : Analysts) (n : ℕ)
    → IsSession answers (opening_state s settles) told left end output t → KeepsPromiseSoFar s told (take n output)

pub record FrontsKeepThePromise : Type 0 where
  pub beside : FrontsKeepIt AnswersBeside
  pub alone : FrontsKeepIt AnswersAlone

-- ---- each answer is one line
pub record AnswersAreLines : Type 0 where
  -- texts that are one line each are what is found between the newlines of what is put together from them
  pub cut : (texts : List (List ℕ)) → All IsOneLine texts → texts_of (concat texts) ≡ texts
  -- so there is one way to put an output together from them
  pub one : (a b : List (List ℕ)) → All IsOneLine a → All IsOneLine b → concat a ≡ concat b → a ≡ b
  -- and the answers by which a session keeps its promise are the lines of its output
  pub answers : (s : ScenarioData) (lines : List (List ℕ)) (output : List ℕ) (k : KeepsPromise s lines output)
      → texts_in k.exchanges ≡ texts_of output
