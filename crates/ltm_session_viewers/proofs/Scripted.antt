-- A script that was served over a core while what it settles was posted.
use Rattle.std.proofs.Common.{ℕ, ◌≡◌, inr, List}
use Rattle.std.specs.Prelude.{Option, Result, Ok, Err, IfErr}
use Rattle.ltm_io.specs.Sink.{appended}
use Rattle.ltm_core.specs.Cores.{CoreData}
use Rattle.ltm_session.specs.declared.ends.SessionEnd.{SessionEnd}
use Rattle.ltm_session.specs.declared.ends.SessionEnd.TheVariants.{Ended, WriteFault, NoMemory}
use Rattle.ltm_session.specs.Analysts.{Analysts, state_of, opening_of}
use Rattle.ltm_session.specs.Answers.{AnswersAlone}
use Rattle.ltm_session.specs.Answerers.{Serves, StopsBy}
use Rattle.ltm_session.specs.Session.{Answering, AnswersLine}
use Rattle.ltm_session.proofs.OneMachine.{served_one, stops_one}
use Rattle.ltm_session.proofs.Progress.{whole_front}
use Rattle.ltm_session_viewers.specs.Serving.{IsScripted}

pub scripted : (d e : CoreData) (told left : Option (List ℕ)) (end : SessionEnd) (old new : Option (List ℕ)) → state_of d ≡ opening_of d
    → Serves AnswersAlone (λ s. s ≡ state_of d) (λ s. s ≡ state_of e) told left end old new → IsScripted d told left end old new e
scripted d e told left end old new fresh served =
    let (output, session, wrote) = served_one AnswersAlone (opening_of d) (state_of d) (state_of e) told left end old new fresh served in
    record { output = output; session = session; wrote = wrote; read = served.read }

-- a script that was read to its end stopped at no line
pub at_its_end : {P : Type 0} (end : SessionEnd) → ((end ≡ WriteFault → ⊥) → (end ≡ NoMemory → ⊥) → P) → end ≡ Ended → P
at_its_end end well ended = well (λ x. cc) (λ x. cc)

-- where a post found no memory, the answer before it was written whole
pub stops_posting : {A : Type 0} (rule : Answering) (a b : Analysts) (line words : List ℕ) (old new : Option (List ℕ)) (r : Result A SessionEnd)
    → IfErr r (λ end. end ≡ NoMemory) → AnswersLine rule a line words b → new ≡ appended words old
    → IfErr r (λ end. StopsBy rule (λ s. s ≡ a) (λ s. s ≡ b) line end old new)
stops_posting rule a b line words old new (Ok x) is said wrote = tt
stops_posting rule a b line words old new (Err end) is said wrote =
    stops_one {A = Unit {0}} rule a b line old new (Err end) (inr is, inr (words, said, whole_front old new words wrote))
