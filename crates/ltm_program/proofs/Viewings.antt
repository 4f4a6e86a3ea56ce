-- What a view leaves written, with the line that closes it.
use Rattle.std.proofs.Common.{ℕ, ◌≡◌, refl, ap, sym, subst, ◌∙◌, List, [], ◌++◌, Option, None, Some}
use Rattle.std.proofs.lemmas.List.{append-nil}
use Rattle.ltm_io.specs.Sink.{appended}
use Rattle.ltm_io.specs.Script.{lines_of}
use Rattle.ltm_scenario.specs.Data.{ScenarioData}
use Rattle.ltm_session.specs.declared.ends.SessionEnd.{SessionEnd}
use Rattle.ltm_session.specs.declared.ends.SessionEnd.TheVariants as end
use Rattle.ltm_session.specs.Analysts.{Analysts, opening_state}
use Rattle.ltm_session.specs.Answers.{AnswersAlone}
use Rattle.ltm_session.specs.Session.{AnswersLines, IsSession, Wrote}
use Rattle.ltm_session.proofs.Progress.{nothing_more}
use Rattle.ltm_session_viewers.specs.Lines.{ViewersTell}
use Rattle.ltm_session_viewers.specs.View.{IsView, IsViewOutput, ClosesView}
use Rattle.ltm_program.specs.Sessions.{closing_of, ServesWhole}

-- ---- a view that ended well
told_well : (viewers : ℕ) (t : Analysts) (session e : SessionEnd) (lines : List ℕ) → ClosesView viewers t session e lines → e ≡ end.Ended → (session ≡ end.Ended) × ViewersTell viewers t lines
told_well viewers t end.Ended e lines closes is = (refl, closes.0)
told_well viewers t end.ReadFault e lines closes is = let wrong : end.ReadFault ≡ end.Ended = sym closes.0 ∙ is in cc
told_well viewers t end.WriteFault e lines closes is = let wrong : end.WriteFault ≡ end.Ended = sym closes.0 ∙ is in cc
told_well viewers t (end.LineTooLong n) e lines closes is = let wrong : end.LineTooLong n ≡ end.Ended = sym closes.0 ∙ is in cc
told_well viewers t end.TooManyCommands e lines closes is = let wrong : end.TooManyCommands ≡ end.Ended = sym closes.0 ∙ is in cc
told_well viewers t end.NoMemory e lines closes is = let wrong : end.NoMemory ≡ end.Ended = sym closes.0 ∙ is in cc

all_answered : (s : ScenarioData) (script answers : List ℕ) (left : Option (List ℕ)) (t : Analysts) → IsSession AnswersAlone (opening_state s 0) (Some script) left end.Ended answers t
    → AnswersLines AnswersAlone (opening_state s 0) (lines_of script) answers t
all_answered s script answers left t so =
    let (rest, cut, none) = so.ends in
    let all : lines_of script ≡ so.answered = cut ∙ ap (λ r. so.answered ++ r) none ∙ append-nil so.answered in
    subst (λ ls. AnswersLines AnswersAlone (opening_state s 0) ls answers t) (sym all) so.runs

pub view_well : (viewers : ℕ) (s : ScenarioData) (script left old now new : Option (List ℕ)) (e : SessionEnd) (output : List ℕ) (t : Analysts) → e ≡ end.Ended
    → IsView viewers (opening_state s 0) script left e output t → Wrote e old now output → ((lines : List ℕ) → script ≡ Some lines → e ≡ end.Ended → left ≡ Some [])
    → new ≡ appended (closing_of e) now → ServesWhole (IsViewOutput viewers) s script left old new
view_well viewers s None left old now new e output t is so wrote read closed = tt
view_well viewers s (Some script) left old now new e output t is so wrote read closed =
    let (ended, tell) = told_well viewers t so.session_end e so.lines so.closes is in
    let session : IsSession AnswersAlone (opening_state s 0) (Some script) left end.Ended so.answers t = subst (λ x. IsSession AnswersAlone (opening_state s 0) (Some script) left x so.answers t) ended so.session in
    let still : new ≡ now = closed ∙ ap (λ k. appended (closing_of k) now) is ∙ sym (nothing_more now) in (
      output,
      (t, so.answers, so.lines, all_answered s script so.answers left t session, tell, so.output_is),
      still ∙ subst (λ x. Wrote x old now output) is wrote,
      read script refl is,
    )
