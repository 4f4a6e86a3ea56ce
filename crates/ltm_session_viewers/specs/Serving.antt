-- A script that was served to its end over a core, and what was answered.
use Rattle.std.specs.Prelude.{◌≡◌, ◌⊎◌, ℕ, List, [], Option, Some}
use Rattle.ltm_io.specs.Sink.{appended, AppendsFront}
use Rattle.ltm_core.specs.Cores.{CoreData}
use Rattle.ltm_session.specs.declared.ends.SessionEnd.{SessionEnd}
use Rattle.ltm_session.specs.declared.ends.SessionEnd.TheVariants.{Ended, WriteFault, NoMemory}
use Rattle.ltm_session.specs.Analysts.{Analysts, state_of, opening_of}
use Rattle.ltm_session.specs.Answers.{AnswersAlone}
use Rattle.ltm_session.specs.Answerers.{IsUnread}
use Rattle.ltm_session.specs.Ready.{AwaitsLine}
use Rattle.ltm_session.specs.Session.{IsSession, Wrote}
use Rattle.ltm_session_viewers.specs.declared.boards.Boards.{Boards}
use Rattle.ltm_session_viewers.specs.declared.stage.Stage.{Stage}
use Rattle.ltm_session_viewers.specs.Hung.{AllHave, board_hooks, shown_list}
use Rattle.ltm_session_viewers.specs.Lines.{ViewersTell}
use Rattle.ltm_session_viewers.specs.View.{IsView}

-- a session without workers led from a core to another; where it ended well the whole script was read
pub record IsScripted (d : CoreData) (told left : Option (List ℕ)) (end : SessionEnd) (old new : Option (List ℕ)) (e : CoreData) : Type 0 where
  pub output : List ℕ
  pub session : IsSession AnswersAlone (opening_of d) told left end output (state_of e)
  pub wrote : Wrote end old new output
  pub read : (script : List ℕ) → told ≡ Some script → end ≡ Ended → left ≡ Some []

-- a session with viewers may begin: its core has accepted nothing and awaits a line, its boards have what is shown, and
-- nothing of its script was read
pub record IsSet (d : CoreData) (stage : Stage) : Type 0 where
  pub fresh : state_of d ≡ opening_of d
  pub awaits : AwaitsLine d
  pub posted : AllHave stage.boards (shown_list d)
  pub unread : IsUnread stage.script

-- a script was served over a core, and what it settled was posted: where it ended well the boards have what is shown
pub record ServesPosting (d : CoreData) (stage : Stage) (told left : Option (List ℕ)) (end : SessionEnd) (old new : Option (List ℕ)) (e : CoreData) (boards : Boards) : Type 0 where
  pub script : IsScripted d told left end old new e
  pub posted : end ≡ Ended → AllHave boards (shown_list e)
  pub hooks : board_hooks boards ≡ board_hooks stage.boards

-- what viewers tell at the end was written, or a front of it where the writing or the memory failed
abbrev pub TellsLast : ℕ → Analysts → SessionEnd → Option (List ℕ) → Option (List ℕ) → Type 0
TellsLast viewers t end old new =
    ((end ≡ NoMemory) × (new ≡ old))
    ⊎ ((lines : List ℕ) × ViewersTell viewers t lines
    × (((end ≡ Ended) × (new ≡ appended lines old)) ⊎ (((end ≡ WriteFault) ⊎ (end ≡ NoMemory)) × AppendsFront old new lines)))

-- a session with so many viewers led from a core to another: what was answered and told, and what was written of it; where it
-- ended well the whole script was read
pub record Views (viewers : ℕ) (d : CoreData) (told left : Option (List ℕ)) (end : SessionEnd) (old new : Option (List ℕ)) (e : CoreData) : Type 0 where
  pub output : List ℕ
  pub view : IsView viewers (opening_of d) told left end output (state_of e)
  pub wrote : Wrote end old new output
  pub read : (script : List ℕ) → told ≡ Some script → end ≡ Ended → left ≡ Some []
