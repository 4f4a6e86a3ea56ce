-- The promise of sessions, of the whole program.
use Rattle.std.proofs.Common.{ℕ, zero, suc, ◌≡◌, ◌⊎◌, inl, inr, refl, ap, sym, subst, ◌∙◌, List, [], ◌∷◌, ◌++◌, Option, None, Some, Ok, Err}
use Rattle.std.specs.Prelude.{IfSome, take}
use Rattle.ltm_io.specs.Folder.{Files}
use Rattle.ltm_io.specs.Sink.{appended}
use Rattle.ltm_io.specs.Script.{lines_of}
use Rattle.ltm_scenario.specs.Data.{ScenarioData}
use Rattle.ltm_casefile.specs.KeptCase.{kept_case_of}
use Rattle.ltm_session.specs.declared.ends.SessionEnd.{SessionEnd}
use Rattle.ltm_session.specs.Session.{IsSessionOutput}
use Rattle.ltm_session.specs.Promise.{KeepsPromise, KeepsPromiseSoFar}
use Rattle.ltm_session.specs.Laws.{OutputsKeepThePromise, FrontsKeepThePromise, FrontsKeepIt}
use Rattle.ltm_session_viewers.specs.View.{IsViewOutput}
use Rattle.ltm_command.specs.declared.status.Status.{Status}
use Rattle.ltm_command.specs.Run.{LeavesInput, WritesFront}
use Rattle.ltm_program.specs.Sessions.{IsCaseUnder, IsServed, ServesWhole, closing_of}
use Rattle.ltm_program.specs.Ran.{rule_of}
use Rattle.ltm_program.specs.RanLaws.{SessionsSay}
use Rattle.ltm_program.specs.Headline.{Headline, HeadlineOfFronts, HeadlineOfViews}

kept_whole : OutputsKeepThePromise → (s : ScenarioData) (script left old new : Option (List ℕ)) → ServesWhole IsSessionOutput s script left old new
    → IfSome script (λ lines. (output : List ℕ) × KeepsPromise s (lines_of lines) output × (new ≡ appended output old))
kept_whole kept s None left old new served = tt
kept_whole kept s (Some lines) left old new (output, is, wrote, read) = (output, kept.beside s lines output is, wrote)

pub headline : SessionsSay → OutputsKeepThePromise → Headline
headline laws kept b a workers r = let h = laws.session b a workers r in (h.0, h.1, kept_whole kept h.0 b.left a.left b.written a.written h.2)

kept_view : OutputsKeepThePromise → (n : ℕ) (s : ScenarioData) (script left old new : Option (List ℕ)) → ServesWhole (IsViewOutput n) s script left old new
    → IfSome script (λ lines. (answers told : List ℕ) × KeepsPromise s (lines_of lines) answers × (new ≡ appended (answers ++ told) old))
kept_view kept n s None left old new served = tt
kept_view kept n s (Some lines) left old new (output, (t, answers, told, runs, tell, is), wrote, read) =
    (answers, told, kept.alone s lines answers (t, runs), wrote ∙ ap (λ o. appended o old) is)

pub headline_of_views : SessionsSay → OutputsKeepThePromise → HeadlineOfViews
headline_of_views laws kept b a viewers r = let h = laws.view b a viewers r in (h.0, h.1, kept_view kept viewers h.0 b.left a.left b.written a.written h.2)

-- ---- whatever stops it
kept_so_far : (n : ℕ) → FrontsKeepThePromise → FrontsKeepIt (rule_of n)
kept_so_far zero kept = kept.alone
kept_so_far (suc n) kept = kept.beside

-- a front of two lists is a front of each
take_over : (k : ℕ) (xs ys : List ℕ) → (m : ℕ) × (take k (xs ++ ys) ≡ take k xs ++ take m ys)
take_over zero [] ys = (zero, refl)
take_over zero (x ∷ xs) ys = (zero, refl)
take_over (suc k) [] ys = (suc k, refl)
take_over (suc k) (x ∷ xs) ys = let h = take_over k xs ys in (h.0, ap (λ l. x ∷ l) h.1)

fronts_at : FrontsKeepThePromise → (Unread : Type 0) (n : ℕ) (status : Status) (told : Option Files) (script left old new : Option (List ℕ)) → WritesFront (IsCaseUnder Unread (IsServed (rule_of n) script left) told) status old new
    → IfSome told (λ files. (s : ScenarioData) → kept_case_of files ≡ Ok s
    → (new ≡ old) ⊎ ((t : List ℕ) × (end : SessionEnd) × (m : ℕ) × KeepsPromiseSoFar s script t × (new ≡ appended (t ++ take m (closing_of end)) old)))
fronts_at kept Unread n status None script left old new front = tt
fronts_at kept Unread n status (Some files) script left old new (inl (same, written)) = λ s is. inl same
fronts_at kept Unread n status (Some files) script left old new (inr (due, u, given, inl (f, describes, under, at, unread), front)) = λ s is. let wrong : Ok s ≡ Err f = sym is ∙ describes in absurd (cc)
fronts_at kept Unread n status (Some files) script left old new (inr (due, u, given, inr (z, describes, (e, output, (m, so), under, at)), (k, few, wrote))) = λ s is.
    let both : Ok z ≡ Ok s = sym describes ∙ is in
    let same : z ≡ s = cc in
    let promise = kept_so_far n kept z 0 script left e output m k so in
    let over = take_over k output (closing_of e) in
    inr (
      take k output,
      e,
      over.0,
      subst (λ x. KeepsPromiseSoFar x script (take k output)) same promise,
      wrote ∙ ap (λ w. appended (take k w) old) at ∙ ap (λ w. appended w old) over.1,
    )

pub headline_of_fronts : FrontsKeepThePromise → HeadlineOfFronts
headline_of_fronts kept b a workers status r = fronts_at kept (LeavesInput b a) workers status b.told b.left a.left b.written a.written r.front
