-- What a session wrote that a failed read ended.
use Rattle.std.proofs.Common.{ℕ, ◌≡◌, inl, inr, refl, ap, sym, ◌∙◌, List, [], ◌++◌, Option, None, Some, Ok}
use Rattle.std.proofs.lemmas.List.{append-nil}
use Rattle.ltm_io.specs.Sink.{appended}
use Rattle.ltm_scenario.specs.Data.{ScenarioData}
use Rattle.ltm_check_command.specs.declared.refusal.Refusal.TheVariants as refusal
use Rattle.ltm_session.specs.declared.ends.SessionEnd.{SessionEnd}
use Rattle.ltm_session.specs.declared.ends.SessionEnd.TheVariants as end
use Rattle.ltm_session.specs.Analysts.{Analysts, opening_state}
use Rattle.ltm_session.specs.Answers.{AnswersAlone}
use Rattle.ltm_session.specs.Session.{Answering, IsSession}
use Rattle.ltm_session_viewers.specs.View.{IsView, ClosesView}
use Rattle.ltm_command.specs.declared.status.Status.TheVariants as ending
use Rattle.ltm_command.specs.Answers.{DescribesKept}
use Rattle.ltm_command.specs.Run.{Outside}
use Rattle.ltm_command.proofs.Told.{never_read}
use Rattle.ltm_program.specs.Sessions.{IsServed, IsServedUnder, ServesWhatCame, status_of_end, closing_of}
use Rattle.ltm_program.specs.Views.{IsViewed}
use Rattle.ltm_program.specs.RanLaws.{Wrote}

cut : (e : SessionEnd) → ending.ReadFault ≡ status_of_end e → e ≡ end.ReadFault
cut end.Ended is = absurd (cc)
cut (end.LineTooLong n) is = absurd (cc)
cut end.TooManyCommands is = absurd (cc)
cut end.ReadFault is = refl
cut end.WriteFault is = absurd (cc)
cut end.NoMemory is = absurd (cc)

-- no line closes it
unclosed : (e : SessionEnd) (output t : List ℕ) → e ≡ end.ReadFault → t ≡ output ++ closing_of e → t ≡ output
unclosed e output t is at = at ∙ ap (λ x. output ++ closing_of x) is ∙ append-nil output

what_came : (answers : Answering) (s : ScenarioData) (script left old new : Option (List ℕ)) (e : SessionEnd) (output : List ℕ) (m : Analysts) → e ≡ end.ReadFault
    → IsSession answers (opening_state s 0) script left e output m → new ≡ appended output old → ServesWhatCame answers s script left old new
what_came answers s None left old new e output m is so wrote = tt
what_came answers s (Some script) left old new e output m is so wrote = (so.answered, output, m, so.came is, so.runs, wrote)

pub session_came : (answers : Answering) (b a : Outside) (t : List ℕ) → IsServedUnder (IsServed answers) b a ending.ReadFault t → Wrote t b a
    → (s : ScenarioData) × DescribesKept b.told (Ok s) × ServesWhatCame answers s b.left a.left b.written a.written
session_came answers b a t (inl (f, describes, is, at, unread)) wrote = absurd (never_read (refusal.Case f) is)
session_came answers b a t (inr (s, describes, (e, output, (m, so), is, at))) wrote =
    (s, describes, what_came answers s b.left a.left b.written a.written e output m (cut e is) so (wrote ∙ ap (λ x. appended x b.written) (unclosed e output t (cut e is) at)))

-- ---- with viewers, who tell nothing then
told_cut : (n : ℕ) (m : Analysts) (session e : SessionEnd) (lines : List ℕ) → ClosesView n m session e lines → e ≡ end.ReadFault → (session ≡ end.ReadFault) × (lines ≡ [])
told_cut n m end.Ended e lines (tell, inl well) is = let wrong : end.Ended ≡ end.ReadFault = sym well ∙ is in absurd (cc)
told_cut n m end.Ended e lines (tell, inr (inl failed)) is = let wrong : end.WriteFault ≡ end.ReadFault = sym failed ∙ is in absurd (cc)
told_cut n m end.Ended e lines (tell, inr (inr none)) is = let wrong : end.NoMemory ≡ end.ReadFault = sym none ∙ is in absurd (cc)
told_cut n m end.ReadFault e lines closes is = (refl, closes.1)
told_cut n m end.WriteFault e lines closes is = let wrong : end.WriteFault ≡ end.ReadFault = sym closes.0 ∙ is in absurd (cc)
told_cut n m (end.LineTooLong k) e lines closes is = let wrong : end.LineTooLong k ≡ end.ReadFault = sym closes.0 ∙ is in absurd (cc)
told_cut n m end.TooManyCommands e lines closes is = let wrong : end.TooManyCommands ≡ end.ReadFault = sym closes.0 ∙ is in absurd (cc)
told_cut n m end.NoMemory e lines closes is = let wrong : end.NoMemory ≡ end.ReadFault = sym closes.0 ∙ is in absurd (cc)

viewed : (n : ℕ) (s : ScenarioData) (script left old new : Option (List ℕ)) (e : SessionEnd) (output : List ℕ) (m : Analysts) → e ≡ end.ReadFault
    → IsView n (opening_state s 0) script left e output m → new ≡ appended output old → ServesWhatCame AnswersAlone s script left old new
viewed n s script left old new e output m is so wrote =
    let (session, none) = told_cut n m so.session_end e so.lines so.closes is in
    let answered : output ≡ so.answers = so.output_is ∙ ap (λ l. so.answers ++ l) none ∙ append-nil so.answers in
    what_came AnswersAlone s script left old new so.session_end so.answers m session so.session (wrote ∙ ap (λ x. appended x old) answered)

pub view_came : (n : ℕ) (b a : Outside) (t : List ℕ) → IsServedUnder (IsViewed n) b a ending.ReadFault t → Wrote t b a
    → (s : ScenarioData) × DescribesKept b.told (Ok s) × ServesWhatCame AnswersAlone s b.left a.left b.written a.written
view_came n b a t (inl (f, describes, is, at, unread)) wrote = absurd (never_read (refusal.Case f) is)
view_came n b a t (inr (s, describes, (e, output, (m, so), is, at))) wrote =
    (s, describes, viewed n s b.left a.left b.written a.written e output m (cut e is) so (wrote ∙ ap (λ x. appended x b.written) (unclosed e output t (cut e is) at)))
