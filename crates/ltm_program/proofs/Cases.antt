-- A run of the case that the files describe, or the line that refuses it.
use Rattle.std.proofs.Common.{ℕ, zero, suc, ◌≡◌, ◌⊎◌, inl, inr, refl, ap, sym, subst, ◌∙◌, List, Option, Ok, Err}
use Rattle.std.specs.Prelude.{IfSome}
use Rattle.ltm_io.specs.declared.doc.Doc.{Doc}
use Rattle.ltm_io.specs.Folder.{Files}
use Rattle.ltm_io.specs.Faults.{Rose}
use Rattle.ltm_io.specs.Sink.{appended, AppendsFront}
use Rattle.ltm_scenario.specs.Data.{ScenarioData}
use Rattle.ltm_casefile.specs.declared.faults.CaseFault.{CaseFault}
use Rattle.ltm_casefile.specs.declared.faults.CaseFault.TheVariants as fault
use Rattle.ltm_casefile.specs.Faults.{Agrees, HasRisen, WasAsked}
use Rattle.ltm_casefile.specs.Case.{asks_for}
use Rattle.ltm_casefile.specs.KeptCase.{kept_case_of}
use Rattle.ltm_check_command.specs.declared.refusal.Refusal.TheVariants as checked
use Rattle.ltm_core.specs.Log.{version_now}
use Rattle.ltm_core.specs.Cores.{CoreData}
use Rattle.ltm_core.specs.CoreAnswers.{IsOpeningCore}
use Rattle.ltm_core.specs.Told.{settles_of}
use Rattle.ltm_session.specs.Analysts.{Analysts, opening_state, opening_of}
use Rattle.ltm_session.specs.Answers.{AnswersAlone, AnswersBeside}
use Rattle.ltm_session.specs.Session.{Answering, IsSession, Wrote}
use Rattle.ltm_session_viewers.specs.View.{IsView}
use Rattle.ltm_session.specs.declared.ends.SessionEnd.{SessionEnd}
use Rattle.ltm_command.specs.declared.status.Status.{Status}
use Rattle.ltm_command.specs.declared.status.Status.TheVariants as ending
use Rattle.ltm_command.specs.declared.words.Command.TheVariants as command
use Rattle.ltm_command.specs.declared.words.Report.TheVariants as report
use Rattle.ltm_command.specs.Answers.{DescribesKept}
use Rattle.ltm_command.specs.Program.{IsWhole, IsTold, IsMissing, FetchesCase, case_status, refusal_of}
use Rattle.ltm_command.specs.Run.{Outside, outside, LeavesInput, WritesFront, IsRun}
use Rattle.ltm_command.proofs.MissingFile.{failed}
use Rattle.ltm_command.proofs.Running.{missed, run_refused}
use Rattle.ltm_command.proofs.Told.{told_given, never_ok, never_read}
use Rattle.ltm_program.specs.Sessions.{EndsUnder, IsCaseUnder, IsServed}
use Rattle.ltm_program.specs.Ran.{rule_of}

-- ---- a core that has just begun
pub nothing_accepted : (s : ScenarioData) (d : CoreData) → IsOpeningCore s d → version_now d.log ≡ 0
unfolding version_now
nothing_accepted s d opens = ap version_now opens.log

pub nothing_counted : (s : ScenarioData) (d : CoreData) → IsOpeningCore s d → settles_of d ≡ 0
nothing_counted s d opens = ap (λ h. settles_of (record d { history = h })) opens.history

-- a session of such a core began with the opening state of its scenario
opening_none : (d : CoreData) → settles_of d ≡ 0 → opening_of d ≡ opening_state d.log.opening 0
opening_none d none = ap (opening_state d.log.opening) none

pub session_began : (answers : Answering) (d : CoreData) (told left : Option (List ℕ)) (end : SessionEnd) (output : List ℕ) (t : Analysts) → settles_of d ≡ 0
    → IsSession answers (opening_of d) told left end output t → IsSession answers (opening_state d.log.opening 0) told left end output t
session_began answers d told left end output t none so = subst (λ (z : Analysts). IsSession answers z told left end output t) (opening_none d none) so

pub view_began : (viewers : ℕ) (d : CoreData) (told left : Option (List ℕ)) (end : SessionEnd) (output : List ℕ) (t : Analysts) → settles_of d ≡ 0
    → IsView viewers (opening_of d) told left end output t → IsView viewers (opening_state d.log.opening 0) told left end output t
view_began viewers d told left end output t none so = subst (λ (z : Analysts). IsView viewers z told left end output t) (opening_none d none) so

-- beside so many workers, or none
pub began_beside : (n : ℕ) (d : CoreData) (told left : Option (List ℕ)) (end : SessionEnd) (old new : Option (List ℕ)) → settles_of d ≡ 0
    → ((output : List ℕ) × (t : Analysts) × IsSession AnswersBeside (opening_of d) told left end output t × Wrote end old new output)
    → (n ≡ 0 → (output : List ℕ) × (t : Analysts) × IsSession AnswersAlone (opening_of d) told left end output t × Wrote end old new output)
    → (output : List ℕ) × IsServed (rule_of n) told left d.log.opening end output × Wrote end old new output
began_beside zero d told left end old new none beside alone =
    let (output, t, so, wrote) = alone refl in (output, (t, session_began AnswersAlone d told left end output t none so), wrote)
began_beside (suc n) d told left end old new none (output, t, so, wrote) alone = (output, (t, session_began AnswersBeside d told left end output t none so), wrote)

-- ---- a case that is read
front_in : (Unread : Type 0) (Of : ScenarioData → SessionEnd → List ℕ → Type 0) (s : ScenarioData) (told : Option Files) (status : Status) (old new : Option (List ℕ)) → DescribesKept told (Ok s)
    → WritesFront (EndsUnder (Of s)) status old new → WritesFront (IsCaseUnder Unread Of told) status old new
front_in Unread Of s told status old new describes (inl same) = inl same
front_in Unread Of s told status old new describes (inr (due, t, given, under, front)) = inr (due, t, given, inr (s, describes, under), front)

-- a run of it, after its files were fetched
pub run_case : (Unread : Type 0) (Of : ScenarioData → SessionEnd → List ℕ → Type 0) (s : ScenarioData) (status : Status) (told : Option Files) (before : Doc → ℕ) (m a : Outside)
    → m.told ≡ told → ((d : Doc) → (FetchesCase told d → ⊥) → m.faults d ≡ before d) → DescribesKept told (Ok s) → IsRun (EndsUnder (Of s)) (λ d. ⊥) (Unit {0}) status m a
    → IsRun (IsCaseUnder Unread Of told) (FetchesCase told) (Unit {0}) status (outside told before m.left m.read_faults m.written m.write_faults) a
run_case Unread Of s status told before m a keeps stays describes run = record {
  touches = (run.touches.0 ∙ keeps, λ d out. run.touches.1 d (λ none. none) ∙ stays d out);
  reads = run.reads;
  faults = (λ is. absurd ((run.faults.0 is).0.1), run.faults.1, run.faults.2);
  whole = λ is. let h = run.whole is in (h.0, inr (s, describes, h.1), h.2);
  front = front_in Unread Of s told status m.written a.written describes run.front;
}

-- ---- a case that is refused
told_describes : (told : Option Files) (f : CaseFault) → IsTold (checked.Case f) → IfSome told (λ files. Agrees (kept_case_of files) f) → DescribesKept told (Err f)
told_describes told (fault.Folder x) is agrees = absurd is
told_describes told (fault.TooLong x) is agrees = agrees
told_describes told (fault.Bad x row cause) is agrees = agrees
told_describes told fault.NoHistory is agrees = agrees
told_describes told fault.NoMemory is agrees = absurd is

fetch_failed : (told : Option Files) (before now : Doc → ℕ) (f : CaseFault) → IfSome told (λ files. WasAsked (asks_for files) f) → HasRisen before now f → IsMissing (checked.Case f)
    → (d : Doc) × FetchesCase told d × Rose (before d) (now d)
fetch_failed told before now (fault.Folder x) asked rose is = missed (command.Report report.Load) told before now (failed report.Load told before now x asked rose)
fetch_failed told before now (fault.TooLong x) asked rose is = absurd is
fetch_failed told before now (fault.Bad x row cause) asked rose is = absurd is
fetch_failed told before now fault.NoHistory asked rose is = absurd is
fetch_failed told before now fault.NoMemory asked rose is = absurd is

pub run_unread : (Of : ScenarioData → SessionEnd → List ℕ → Type 0) (f : CaseFault) (status : Status) (b a : Outside)
    → (a.told ≡ b.told) × ((d : Doc) → (FetchesCase b.told d → ⊥) → a.faults d ≡ b.faults d) → LeavesInput b a
    → IfSome b.told (λ files. Agrees (kept_case_of files) f) → IfSome b.told (λ files. WasAsked (asks_for files) f) → HasRisen b.faults a.faults f
    → (IsWhole status → IsTold (checked.Case f) × (status ≡ case_status f) × (a.written ≡ appended (refusal_of f) b.written))
    → (a.written ≡ b.written) ⊎ (IsTold (checked.Case f) × AppendsFront b.written a.written (refusal_of f))
    → (status ≡ ending.FolderFault → IsMissing (checked.Case f) × (a.written ≡ b.written))
    → (status ≡ ending.WriteFault → IsTold (checked.Case f) × Rose b.write_faults a.write_faults)
    → IsRun (IsCaseUnder (LeavesInput b a) Of b.told) (FetchesCase b.told) (Unit {0}) status b a
run_unread Of f status b a touches unread agrees asked rose whole front folder write =
    run_refused (IsCaseUnder (LeavesInput b a) Of b.told) (FetchesCase b.told) (Unit {0}) (IsTold (checked.Case f)) (IsMissing (checked.Case f)) status (case_status f) (refusal_of f) b a touches unread
    (λ is. inl (f, told_describes b.told f is agrees, refl, refl, unread)) (told_given (checked.Case f)) (λ is. never_ok (checked.Case f) (sym is)) (λ is. never_read (checked.Case f) (sym is))
    (fetch_failed b.told b.faults a.faults f asked rose) whole front folder write
