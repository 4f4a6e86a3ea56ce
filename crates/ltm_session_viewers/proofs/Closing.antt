-- A session and what its viewers tell at the end.
use Rattle.std.proofs.Common.{◌≡◌, ◌⊎◌, ℕ, List, [], ◌++◌, length, inl, inr, refl, sym, ap, subst, ◌∙◌}
use Rattle.std.proofs.lemmas.List.{append-nil}
use Rattle.std.specs.Prelude.{Option, Some, None, IfSome}
use Rattle.ltm_io.specs.Sink.{appended, AppendsFront}
use Rattle.ltm_io.specs.Script.{lines_of}
use Rattle.ltm_core.specs.Cores.{CoreData}
use Rattle.ltm_session.specs.declared.ends.SessionEnd.{SessionEnd}
use Rattle.ltm_session.specs.declared.ends.SessionEnd.TheVariants.{Ended, ReadFault, WriteFault, LineTooLong, TooManyCommands, NoMemory}
use Rattle.ltm_session.specs.Analysts.{Analysts, opening_of, state_of}
use Rattle.ltm_session.specs.Answers.{AnswersAlone}
use Rattle.ltm_session.specs.Session.{IsSession, Wrote, EndsBefore, end_of}
use Rattle.ltm_session.proofs.Progress.{whole_front, appended_more, front_more, no_fault_read, never_begun_at}
use Rattle.ltm_session.proofs.Ending.{one_end}
use Rattle.ltm_session_viewers.specs.View.{IsView, ClosesView}
use Rattle.ltm_session_viewers.specs.Serving.{IsScripted, TellsLast, Views}

-- ---- a session that did not end well: nothing is told
told_nothing : (viewers : ℕ) (t : Analysts) (end : SessionEnd) → (end ≡ Ended → ⊥) → ClosesView viewers t end end []
told_nothing viewers t Ended other = absurd (other refl)
told_nothing viewers t ReadFault other = (refl, refl)
told_nothing viewers t WriteFault other = (refl, refl)
told_nothing viewers t (LineTooLong number) other = (refl, refl)
told_nothing viewers t TooManyCommands other = (refl, refl)
told_nothing viewers t NoMemory other = (refl, refl)

pub stopped : (viewers : ℕ) (d e : CoreData) (told left : Option (List ℕ)) (end : SessionEnd) (old new : Option (List ℕ)) → IsScripted d told left end old new e → (end ≡ Ended → ⊥)
    → Views viewers d told left end old new e
stopped viewers d e told left end old new so other = record {
  output = so.output;
  view = record { session_end = end; answers = so.output; lines = []; session = so.session; closes = told_nothing viewers (state_of e) end other; output_is = sym (append-nil so.output) };
  wrote = so.wrote;
  read = so.read;
}

-- ---- one that did
-- what was answered was answered whatever came then
ends_anyhow : (answered : List (List ℕ)) (told : Option (List ℕ)) (n : ℕ)
    → IfSome told (λ script. (left : List (List ℕ)) × (lines_of script ≡ answered ++ left) × EndsBefore Ended n left)
    → IfSome told (λ script. (left : List (List ℕ)) × (lines_of script ≡ answered ++ left) × EndsBefore NoMemory n left)
ends_anyhow answered None n ends = tt
ends_anyhow answered (Some script) n (left, cut, none) = (left, cut, tt)

anyhow : (s : Analysts) (told left : Option (List ℕ)) (output : List ℕ) (t : Analysts) → IsSession AnswersAlone s told left Ended output t → IsSession AnswersAlone s told left NoMemory output t
anyhow s told left output t so = record {
  answered = so.answered;
  few = so.few;
  fit = so.fit;
  runs = so.runs;
  ends = ends_anyhow so.answered told (length so.answered) so.ends;
  came = λ failed. absurd (no_fault_read NoMemory (inr refl) failed);
}

failed : (end : SessionEnd) (old new : Option (List ℕ)) (output : List ℕ) → (end ≡ WriteFault) ⊎ (end ≡ NoMemory) → AppendsFront old new output → Wrote end old new output
failed end old new output (inl is) front = subst (λ e. Wrote e old new output) (sym is) front
failed end old new output (inr is) front = subst (λ e. Wrote e old new output) (sym is) front

pub told_last : (viewers : ℕ) (d e : CoreData) (told left : Option (List ℕ)) (end : SessionEnd) (old mid new : Option (List ℕ)) → IsScripted d told left Ended old mid e
    → TellsLast viewers (state_of e) end mid new → Views viewers d told left end old new e
told_last viewers d e told left end old mid new so (inl (is, same)) = record {
  output = so.output;
  view = record {
    session_end = NoMemory;
    answers = so.output;
    lines = [];
    session = anyhow (opening_of d) told left so.output (state_of e) so.session;
    closes = (is, refl);
    output_is = sym (append-nil so.output);
  };
  wrote = failed end old new so.output (inr is) (whole_front old new so.output (same ∙ so.wrote));
  read = λ script told_is ended. so.read script told_is refl;
}
told_last viewers d e told left end old mid new so (inr (lines, tell, inl (is, wrote))) = record {
  output = so.output ++ lines;
  view = record { session_end = Ended; answers = so.output; lines = lines; session = so.session; closes = (tell, inl is); output_is = refl };
  wrote = subst (λ x. Wrote x old new (so.output ++ lines)) (sym is) (wrote ∙ (ap (appended lines) so.wrote ∙ appended_more old so.output lines));
  read = λ script told_is ended. so.read script told_is refl;
}
told_last viewers d e told left end old mid new so (inr (lines, tell, inr (is, front))) = record {
  output = so.output ++ lines;
  view = record { session_end = Ended; answers = so.output; lines = lines; session = so.session; closes = (tell, inr is); output_is = refl };
  wrote = failed end old new (so.output ++ lines) is (front_more old mid new so.output lines so.wrote front);
  read = λ script told_is ended. so.read script told_is refl;
}

-- ---- one that was not begun
pub never_viewed : (viewers : ℕ) (d : CoreData) (told left w : Option (List ℕ)) → state_of d ≡ opening_of d → Views viewers d told left NoMemory w w d
never_viewed viewers d told left w same =
    let (output, so, wrote) = never_begun_at AnswersAlone (opening_of d) told left w (state_of d) same in
    let none : NoMemory ≡ Ended → ⊥ = λ wrong. cc in
    stopped viewers d d told left NoMemory w w (record { output = output; session = so; wrote = wrote; read = λ script is ended. absurd (none ended) }) none

-- ---- how it ends
-- a view ends as its session, or where the writing or the memory failed
pub view_ends : (viewers : ℕ) (s : Analysts) (script output : List ℕ) (left : Option (List ℕ)) (end : SessionEnd) (t : Analysts) → IsView viewers s (Some script) left end output t
    → (end ≡ ReadFault → ⊥) → (end ≡ WriteFault → ⊥) → (end ≡ NoMemory → ⊥) → end ≡ end_of script
view_ends viewers s script output left end t so a b c = go so.session_end so.session so.closes
  where
    go : (e : SessionEnd) → IsSession AnswersAlone s (Some script) left e so.answers t → ClosesView viewers t e end so.lines → end ≡ end_of script
    go Ended session (tell, inl is) = is ∙ sym (one_end AnswersAlone s script so.answers left Ended t session (λ x. cc) (λ x. cc) (λ x. cc))
    go Ended session (tell, inr (inl is)) = absurd (b is)
    go Ended session (tell, inr (inr is)) = absurd (c is)
    go ReadFault session (is, none) = absurd (a is)
    go WriteFault session (is, none) = absurd (b is)
    go (LineTooLong n) session (is, none) = is ∙ sym (one_end AnswersAlone s script so.answers left (LineTooLong n) t session (λ x. cc) (λ x. cc) (λ x. cc))
    go TooManyCommands session (is, none) = is ∙ sym (one_end AnswersAlone s script so.answers left TooManyCommands t session (λ x. cc) (λ x. cc) (λ x. cc))
    go NoMemory session (is, none) = absurd (c is)
