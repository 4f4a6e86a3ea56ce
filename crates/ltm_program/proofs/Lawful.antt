-- What follows of a run.
use Rattle.std.proofs.Common.{ℕ, zero, suc, ◌≡◌, ◌⊎◌, inl, inr, refl, ap, sym, subst, ◌∙◌, List, [], ◌++◌, Option, None, Some, Ok, Err, Bool, false, true}
use Rattle.std.specs.Prelude.{IfSome}
use Rattle.std.specs.List.{Contains}
use Rattle.std.proofs.lemmas.List.{append-nil}
use Rattle.ltm_io.specs.declared.doc.Doc.{Doc}
use Rattle.ltm_io.specs.Folder.{Files}
use Rattle.ltm_io.specs.Sink.{appended}
use Rattle.ltm_scenario.specs.Data.{ScenarioData}
use Rattle.ltm_casefile.specs.declared.faults.File.{File}
use Rattle.ltm_casefile.specs.declared.faults.CaseFault.{CaseFault}
use Rattle.ltm_casefile.specs.declared.faults.CaseFault.TheVariants as fault
use Rattle.ltm_casefile.specs.Case.{is_case_file, asks_for}
use Rattle.ltm_casefile.specs.KeptCase.{kept_case_of}
use Rattle.ltm_check_command.specs.declared.refusal.Refusal.TheVariants as refusal
use Rattle.ltm_session.specs.declared.ends.SessionEnd.{SessionEnd}
use Rattle.ltm_session.specs.declared.ends.SessionEnd.TheVariants as end
use Rattle.ltm_session.specs.Analysts.{Analysts, opening_state}
use Rattle.ltm_session.specs.Answers.{AnswersAlone}
use Rattle.ltm_session.specs.Session.{Answering, IsSession, IsOutputAlone, IsSessionOutput, end_of}
use Rattle.ltm_session.specs.Laws.{AloneIsASession}
use Rattle.ltm_session.proofs.Ending.{ends_as_told}
use Rattle.ltm_session.proofs.Progress.{nothing_more}
use Rattle.ltm_session_viewers.specs.View.{IsView, IsViewOutput, ClosesView}
use Rattle.ltm_session_editors.specs.Files.{docs_of}
use Rattle.ltm_session_editors.specs.Answers.{Editing, AnswersEditing, MayAsk}
use Rattle.ltm_command.specs.declared.status.Status.{Status}
use Rattle.ltm_command.specs.declared.status.Status.TheVariants as ending
use Rattle.ltm_command.specs.declared.words.Command.{Command}
use Rattle.ltm_command.specs.declared.words.Command.TheVariants as command
use Rattle.ltm_command.specs.declared.words.Report.TheVariants as report
use Rattle.ltm_command.specs.RouteLines.TheVariants as lines
use Rattle.ltm_command.specs.Answers.{Answer, Answers, DescribesKept, HasText, may_fetch, fetches}
use Rattle.ltm_command.specs.Program.{IsAnswerUnder, IsWhole, IsCalm, Fetches, status_of, case_status, words_of}
use Rattle.ltm_command.specs.Words.{usage_line}
use Rattle.ltm_command.specs.Run.{Outside, LeavesInput, WritesFront, IsRun}
use Rattle.ltm_command.proofs.Running.{sorted}
use Rattle.ltm_command.proofs.Told as texts
use Rattle.ltm_program.specs.Sessions.{IsCaseUnder, IsServed, IsServedUnder, ServesWhole, status_of_end, session_status, closing_of}
use Rattle.ltm_program.specs.Views.{IsViewed}
use Rattle.ltm_program.specs.Editors.{IsEditingUnder, IsCalmFor, editing_status, editing_words}
use Rattle.ltm_program.specs.Ran.{IsTextUnder, rule_of, Ran}
use Rattle.ltm_program.specs.RanLaws.{TextsSay, SessionsSay, EditorsSay, RefusalsSay, FilesStay, Wrote, IsQuiet, HeardAll, TellsMissing}
use Rattle.ltm_program.proofs.Closings.{IsOutputBy, ended_whole, ends_well, no_files}
use Rattle.ltm_program.proofs.Editing as editing
use Rattle.ltm_program.proofs.Viewings.{view_well}
use Rattle.ltm_program.proofs.Cuts.{session_came, view_came}

wrote_as : (b a : Outside) (x y : List ℕ) → Wrote x b a → x ≡ y → Wrote y b a
wrote_as b a x y wrote same = wrote ∙ ap (λ (t : List ℕ). appended t b.written) same

-- ---- statuses
no_memory : (status : Status) → IsWhole status → status ≡ ending.NoMemory → ⊥
no_memory status whole is = subst IsWhole is whole

no_write : (status : Status) → IsWhole status → status ≡ ending.WriteFault → ⊥
no_write status whole is = subst IsWhole is whole

-- where nothing but a missing file belongs to the command, that is told
no_front : (IsText : Status → List ℕ → Type 0) (old new : Option (List ℕ)) → ((due : Status) (u : List ℕ) → IsText due u → due ≡ ending.FolderFault) → WritesFront IsText ending.WriteFault old new → ⊥
no_front IsText old new only (inl (same, written)) = written refl
no_front IsText old new only (inr (due, t, given, is, front)) = given (only due t is)

module _ (IsText : Status → List ℕ → Type 0) (MayFetch : Doc → Type 0) (Reads : Type 0) (b a : Outside) (only : (due : Status) (u : List ℕ) → IsText due u → due ≡ ending.FolderFault) where
  missing_told : (status : Status) → IsRun IsText MayFetch Reads status b a → TellsMissing status
  missing_told ending.FolderFault run = inl refl
  missing_told ending.NoMemory run = inr refl
  missing_told ending.WriteFault run = absurd (no_front IsText b.written a.written only run.front)
  missing_told status run = let h = run.whole tt in inl (only status h.0 h.1)

-- ---- commands that answer one text
text_run : (c : Command) (status : Status) (b a : Outside) → HasText c → Ran (Some c) status b a → IsRun (IsAnswerUnder c b.told) (Fetches c b.told) ⊥ status b a
text_run (command.Session n) status b a is run = absurd is
text_run (command.View n) status b a is run = absurd is
text_run (command.Editors n) status b a is run = absurd is
text_run c status b a is run = run

completes : (c : Command) (b a : Outside) (status : Status) (files : Files) → HasText c → Ran (Some c) status b a → b.told ≡ Some files → IsCalm c files b.faults a.faults → IsQuiet b a
    → ((answer : Answer) × Answers c (Some files) answer × (status ≡ status_of answer)) ⊎ (status ≡ ending.NoMemory)
completes c b a status files has r told calm quiet =
    let run = text_run c status b a has r in
    elim (sorted status (λ is. texts.failed_in_calm c b.told files b.faults a.faults told calm (run.faults.0 is).0) (λ is. quiet (run.faults.2 is))) [
      | inl whole ↦ let h = run.whole whole in inl (texts.told_answer c b.told files status told (h.0, h.1))
      | inr none ↦ inr none
    ]

pub texts_say_holds : TextsSay
texts_say_holds = record {
  load = λ b a r. let h = r.whole tt in let l = texts.reported report.Load b.told h.0 h.1 in (l.0, h.0, l.1, l.2, h.2);
  delay = λ b a r. let h = r.whole tt in let l = texts.reported report.Delay b.told h.0 h.1 in (l.0, h.0, l.1, l.2, h.2);
  gap = λ b a r. let h = r.whole tt in let l = texts.reported report.Gap b.told h.0 h.1 in (l.0, h.0, l.1, l.2, h.2);
  totals = λ b a every r. let h = r.whole tt in let l = texts.reported (report.Totals every) b.told h.0 h.1 in (l.0, h.0, l.1, l.2, h.2);
  curves = λ b a r. let h = r.whole tt in let l = texts.curves_loaded b.told h.0 h.1 in (l.0, h.0, l.1, l.2, h.2);
  check = λ b a r. let h = r.whole tt in let l = texts.checked_yes b.told h.0 h.1 in (l.0, l.1, l.2, l.3, wrote_as b a h.0 _ h.2 l.4);
  check_complete = λ b a status files s bytes r told has few tells calm quiet. texts.says_yes files s bytes status has few tells (completes command.Check b a status files tt r told calm quiet);
  routes = λ b a r. let h = r.whole tt in (h.0, texts.routed lines.Splits b.told h.0 h.1, h.2);
  times = λ b a r. let h = r.whole tt in (h.0, texts.routed lines.Times b.told h.0 h.1, h.2);
  trial = λ b a start nodes r. let h = r.whole tt in (h.0, texts.tried start nodes b.told h.0 h.1, h.2);
}

-- ---- sessions
ended : (e : SessionEnd) → ending.Ok ≡ status_of_end e → e ≡ end.Ended
ended end.Ended is = refl
ended (end.LineTooLong n) is = absurd (cc)
ended end.TooManyCommands is = absurd (cc)
ended end.ReadFault is = absurd (cc)
ended end.WriteFault is = absurd (cc)
ended end.NoMemory is = absurd (cc)

read_to_end : (script left : Option (List ℕ)) (e : SessionEnd) → IfSome script (λ x. left ≡ Some []) → (lines : List ℕ) → script ≡ Some lines → e ≡ end.Ended → left ≡ Some []
read_to_end script left e read lines is well = subst (λ (o : Option (List ℕ)). IfSome o (λ x. left ≡ Some [])) is read

session_serves : (answers : Answering) (s : ScenarioData) (b a : Outside) (e : SessionEnd) (output t : List ℕ) (m : Analysts) → e ≡ end.Ended → IsSession answers (opening_state s 0) b.left a.left e output m → t ≡ output ++ closing_of e
    → Wrote t b a → IfSome b.left (λ x. a.left ≡ Some []) → ServesWhole (IsOutputBy answers) s b.left a.left b.written a.written
session_serves answers s b a e output t m is so at wrote read =
    let ended_so : IsSession answers (opening_state s 0) b.left a.left end.Ended output m = subst (λ x. IsSession answers (opening_state s 0) b.left a.left x output m) is so in
    let whole : t ≡ output = at ∙ ap (λ x. output ++ closing_of x) is ∙ append-nil output in
    let now : a.written ≡ appended output b.written = wrote_as b a t output wrote whole in
    ended_whole s b.left a.left b.written a.written end.Ended output m refl ended_so now (read_to_end b.left a.left end.Ended read)

serves : (answers : Answering) (b a : Outside) (t : List ℕ) → IsServedUnder (IsServed answers) b a ending.Ok t → Wrote t b a → IfSome b.left (λ x. a.left ≡ Some [])
    → (s : ScenarioData) × DescribesKept b.told (Ok s) × ServesWhole (IsOutputBy answers) s b.left a.left b.written a.written
serves answers b a t (inl (f, describes, is, at, unread)) wrote read = absurd (texts.never_ok (refusal.Case f) is)
serves answers b a t (inr (s, describes, (e, output, (m, so), is, at))) wrote read = (s, describes, session_serves answers s b a e output t m (ended e is) so at wrote read)

-- an output without workers is one of a session
serves_alone : (s : ScenarioData) (script left old new : Option (List ℕ)) → AloneIsASession → ServesWhole IsOutputAlone s script left old new → ServesWhole IsSessionOutput s script left old new
serves_alone s None left old new law served = tt
serves_alone s (Some lines) left old new law (output, is, wrote, read) = (output, law s lines output is, wrote, read)

by_rule : (n : ℕ) (s : ScenarioData) (script left old new : Option (List ℕ)) → AloneIsASession → ServesWhole (IsOutputBy (rule_of n)) s script left old new → ServesWhole IsSessionOutput s script left old new
by_rule zero s script left old new law served = serves_alone s script left old new law served
by_rule (suc n) s script left old new law served = served

views : (n : ℕ) (b a : Outside) (t : List ℕ) → IsServedUnder (IsViewed n) b a ending.Ok t → Wrote t b a → IfSome b.left (λ x. a.left ≡ Some [])
    → (s : ScenarioData) × DescribesKept b.told (Ok s) × ServesWhole (IsViewOutput n) s b.left a.left b.written a.written
views n b a t (inl (f, describes, is, at, unread)) wrote read = absurd (texts.never_ok (refusal.Case f) is)
views n b a t (inr (s, describes, (e, output, (m, so), is, at))) wrote read =
    let well = ended e is in
    let ended_so : IsView n (opening_state s 0) b.left a.left end.Ended output m = subst (λ x. IsView n (opening_state s 0) b.left a.left x output m) well so in
    let whole : t ≡ output = at ∙ ap (λ x. output ++ closing_of x) well ∙ append-nil output in
    (s, describes, view_well n s b.left a.left b.written a.written a.written end.Ended output m refl ended_so (wrote_as b a t output wrote whole) (read_to_end b.left a.left end.Ended read) (nothing_more a.written))

view_end : (n : ℕ) (m : Analysts) (session e : SessionEnd) (lines : List ℕ) → ClosesView n m session e lines → (e ≡ end.WriteFault → ⊥) → (e ≡ end.NoMemory → ⊥) → e ≡ session
view_end n m end.Ended e lines (tell, inl is) write memory = is
view_end n m end.Ended e lines (tell, inr (inl is)) write memory = absurd (write is)
view_end n m end.Ended e lines (tell, inr (inr is)) write memory = absurd (memory is)
view_end n m end.ReadFault e lines closes write memory = closes.0
view_end n m end.WriteFault e lines closes write memory = closes.0
view_end n m (end.LineTooLong k) e lines closes write memory = closes.0
view_end n m end.TooManyCommands e lines closes write memory = closes.0
view_end n m end.NoMemory e lines closes write memory = closes.0

-- ---- with no fault of the outside
case_ends : (told : Option Files) (files : Files) (script : List ℕ) (f : CaseFault) (status : Status) → DescribesKept told (Err f) → told ≡ Some files → status ≡ case_status f → status ≡ session_status (kept_case_of files) script
case_ends told files script f status describes is well = well ∙ ap (λ said. session_status said script) (sym (subst (λ o. DescribesKept o (Err f)) is describes))

script_ends : (told : Option Files) (files : Files) (script : List ℕ) (s : ScenarioData) (status : Status) → DescribesKept told (Ok s) → told ≡ Some files
    → (status ≡ status_of_end (end_of script)) ⊎ (status ≡ ending.NoMemory) → (status ≡ session_status (kept_case_of files) script) ⊎ (status ≡ ending.NoMemory)
script_ends told files script s status describes is (inl well) = inl (well ∙ ap (λ said. session_status said script) (sym (subst (λ o. DescribesKept o (Ok s)) is describes)))
script_ends told files script s status describes is (inr none) = inr none

not_end : (e x : SessionEnd) (status : Status) → status ≡ status_of_end e → (status ≡ status_of_end x → ⊥) → e ≡ x → ⊥
not_end e x status is other same = other (is ∙ ap status_of_end same)

module _ (told : Option Files) (left after : Option (List ℕ)) (files : Files) (script : List ℕ) (status : Status) (t : List ℕ) (told_is : told ≡ Some files) (left_is : left ≡ Some script) (whole : IsWhole status)
    (heard : status ≡ ending.ReadFault → ⊥) (Unread : Type 0) where
  session_ends : (answers : Answering) → IsCaseUnder Unread (IsServed answers left after) told status t → (status ≡ session_status (kept_case_of files) script) ⊎ (status ≡ ending.NoMemory)
  session_ends answers (inl (f, describes, is, at, unread)) = inl (case_ends told files script f status describes told_is is)
  session_ends answers (inr (s, describes, (e, output, (m, so), is, at))) =
      script_ends told files script s status describes told_is
      (ends_well e script status (ends_as_told answers (opening_state s 0) left after output e m so script left_is) (not_end e end.ReadFault status is heard)
      (not_end e end.WriteFault status is (no_write status whole)) (no_write status whole) (inl is))

  view_ends : (n : ℕ) → IsCaseUnder Unread (IsViewed n left after) told status t → (status ≡ session_status (kept_case_of files) script) ⊎ (status ≡ ending.NoMemory)
  view_ends n (inl (f, describes, is, at, unread)) = inl (case_ends told files script f status describes told_is is)
  view_ends n (inr (s, describes, (e, output, (m, so), is, at))) =
      let same : e ≡ so.session_end = view_end n m so.session_end e so.lines so.closes (not_end e end.WriteFault status is (no_write status whole)) (not_end e end.NoMemory status is (no_memory status whole)) in
      let session : IsSession AnswersAlone (opening_state s 0) left after e so.answers m = subst (λ x. IsSession AnswersAlone (opening_state s 0) left after x so.answers m) (sym same) so.session in
      script_ends told files script s status describes told_is
      (ends_well e script status (ends_as_told AnswersAlone (opening_state s 0) left after so.answers e m session script left_is) (not_end e end.ReadFault status is heard)
      (not_end e end.WriteFault status is (no_write status whole)) (no_write status whole) (inl is))

session_completes : (b a : Outside) (status : Status) (files : Files) (script : List ℕ) (n : ℕ) → Ran (Some (command.Session n)) status b a → b.told ≡ Some files → b.left ≡ Some script
    → IsCalm (command.Report report.Load) files b.faults a.faults → HeardAll b a → IsQuiet b a → (status ≡ session_status (kept_case_of files) script) ⊎ (status ≡ ending.NoMemory)
session_completes b a status files script n r told left calm heard quiet =
    elim (sorted status (λ is. texts.failed_in_calm (command.Report report.Load) b.told files b.faults a.faults told calm (r.faults.0 is).0) (λ is. quiet (r.faults.2 is))) [
      | inl whole ↦ let h = r.whole whole in session_ends b.told b.left a.left files script status h.0 told left whole (λ is. heard (r.faults.1 is).1) (LeavesInput b a) (rule_of n) h.1
      | inr none ↦ inr none
    ]

view_completes : (b a : Outside) (status : Status) (files : Files) (script : List ℕ) (n : ℕ) → Ran (Some (command.View n)) status b a → b.told ≡ Some files → b.left ≡ Some script
    → IsCalm (command.Report report.Load) files b.faults a.faults → HeardAll b a → IsQuiet b a → (status ≡ session_status (kept_case_of files) script) ⊎ (status ≡ ending.NoMemory)
view_completes b a status files script n r told left calm heard quiet =
    elim (sorted status (λ is. texts.failed_in_calm (command.Report report.Load) b.told files b.faults a.faults told calm (r.faults.0 is).0) (λ is. quiet (r.faults.2 is))) [
      | inl whole ↦ let h = r.whole whole in view_ends b.told b.left a.left files script status h.0 told left whole (λ is. heard (r.faults.1 is).1) (LeavesInput b a) n h.1
      | inr none ↦ inr none
    ]

-- ---- a case whose file is missing
case_lacking : (Unread : Type 0) (Of : ScenarioData → SessionEnd → List ℕ → Type 0) (told : Option Files) (files : Files) (f : File) → told ≡ Some files → kept_case_of files ≡ Err (fault.Folder f)
    → (due : Status) (u : List ℕ) → IsCaseUnder Unread Of told due u → due ≡ ending.FolderFault
case_lacking Unread Of told files f is missing due u (inl (g, describes, under, at, unread)) =
    let both : Err g ≡ Err (fault.Folder f) = sym (subst (λ o. DescribesKept o (Err g)) is describes) ∙ missing in
    let same : g ≡ fault.Folder f = cc in under ∙ ap case_status same
case_lacking Unread Of told files f is missing due u (inr (s, describes, under)) =
    let wrong : Ok s ≡ Err (fault.Folder f) = sym (subst (λ o. DescribesKept o (Ok s)) is describes) ∙ missing in absurd (cc)

-- ---- a case that is refused
case_unread : (Unread : Type 0) (Of : ScenarioData → SessionEnd → List ℕ → Type 0) (told : Option Files) (files : Files) (f : CaseFault) → told ≡ Some files → kept_case_of files ≡ Err f
    → (due : Status) (u : List ℕ) → IsCaseUnder Unread Of told due u → Unread
case_unread Unread Of told files f is refused due u (inl (g, describes, under, at, unread)) = unread
case_unread Unread Of told files f is refused due u (inr (s, describes, under)) =
    let wrong : Ok s ≡ Err f = sym (subst (λ o. DescribesKept o (Ok s)) is describes) ∙ refused in absurd (cc)

pub sessions_say_holds : AloneIsASession → SessionsSay
sessions_say_holds law = record {
  session = λ b a n r. let h = r.whole tt in let v = serves (rule_of n) b a h.0 h.1 h.2 (r.reads.1 tt refl) in (v.0, v.1, by_rule n v.0 b.left a.left b.written a.written law v.2);
  session_alone = λ b a r. let h = r.whole tt in serves AnswersAlone b a h.0 h.1 h.2 (r.reads.1 tt refl);
  view = λ b a n r. let h = r.whole tt in views n b a h.0 h.1 h.2 (r.reads.1 tt refl);
  session_cut = λ b a n r. let h = r.whole tt in session_came (rule_of n) b a h.0 h.1 h.2;
  view_cut = λ b a n r. let h = r.whole tt in view_came n b a h.0 h.1 h.2;
  session_complete = session_completes;
  view_complete = view_completes;
  session_missing = λ b a status files f n r told none. missing_told _ _ _ b a (case_lacking (LeavesInput b a) (IsServed (rule_of n) b.left a.left) b.told files f told none) status r;
  session_unread = λ b a status files f n r told refused is. let h = r.whole is in case_unread (LeavesInput b a) (IsServed (rule_of n) b.left a.left) b.told files f told refused status h.0 h.1;
  view_unread = λ b a status files f n r told refused is. let h = r.whole is in case_unread (LeavesInput b a) (IsViewed n b.left a.left) b.told files f told refused status h.0 h.1;
  view_missing = λ b a status files f n r told none. missing_told _ _ _ b a (case_lacking (LeavesInput b a) (IsViewed n b.left a.left) b.told files f told none) status r;
}

-- ---- several editors
editors_complete : (b a : Outside) (status : Status) (files : Files) (n : ℕ) → Ran (Some (command.Editors n)) status b a → b.told ≡ Some files → IsCalmFor n files b.faults a.faults → IsQuiet b a
    → ((answer : Editing) × AnswersEditing (Some files) n answer × (status ≡ editing_status answer)) ⊎ (status ≡ ending.NoMemory)
editors_complete b a status files n r told calm quiet =
    elim (sorted status (λ is. editing.missed_in_calm n b.told files b.faults a.faults told calm (r.faults.0 is).0) (λ is. quiet (r.faults.2 is))) [
      | inl whole ↦ let h = r.whole whole in inl (editing.told_answer n b.told files status told (h.0, h.1))
      | inr none ↦ inr none
    ]

pub editors_say_holds : EditorsSay
editors_say_holds = record {
  editors = λ b a n r. let h = r.whole tt in let e = editing.edited b.told n h.0 h.1 in (e.0, e.1, h.0, e.2, e.3, h.2);
  editors_answer = λ b a status n r is. let (t, (answer, says, under, at), wrote) = r.whole is in (answer, says, under, wrote_as b a t _ wrote at);
  bad_script = λ b a n r. let h = r.whole tt in let l = editing.bad_line_told b.told n h.0 h.1 in (l.0, l.1, l.2, l.3, wrote_as b a h.0 _ h.2 l.4);
  editors_complete = editors_complete;
  editors_missing = λ b a status files n e r told is none. missing_told _ _ _ b a
      (λ due u under. editing.only_lacking n b.told files due (editing_words (Err e)) u told (Err e, subst (λ (o : Option Files). AnswersEditing o n (Err e)) (sym told) none, editing.missing_is e is, refl) under) status r;
}

-- ---- what decides
no_end_usage : (e : SessionEnd) → ending.Usage ≡ status_of_end e → ⊥
no_end_usage e is = (no_files e ending.Usage (inl is)).0 refl

no_case_usage : (Unread : Type 0) (Of : ScenarioData → SessionEnd → List ℕ → Type 0) (told : Option Files) (t : List ℕ) → IsCaseUnder Unread Of told ending.Usage t → ⊥
no_case_usage Unread Of told t (inl (f, describes, is, at, unread)) = texts.never_usage (refusal.Case f) is
no_case_usage Unread Of told t (inr (s, describes, (e, output, so, is, at))) = no_end_usage e is

no_editing_usage : (n : ℕ) (told : Option Files) (t : List ℕ) → IsEditingUnder n told ending.Usage t → ⊥
no_editing_usage n told t (Ok u, says, is, at) = cc
no_editing_usage n told t (Err e, says, is, at) = editing.never_usage e (sym is)

usage_of : (c : Option Command) (b a : Outside) (t : List ℕ) → IsTextUnder c b a ending.Usage t → (c ≡ None) × (t ≡ usage_line)
usage_of None b a t is = (refl, is.1)
usage_of (Some (command.Session n)) b a t is = absurd (no_case_usage (LeavesInput b a) (IsServed (rule_of n) b.left a.left) b.told t is)
usage_of (Some (command.View n)) b a t is = absurd (no_case_usage (LeavesInput b a) (IsViewed n b.left a.left) b.told t is)
usage_of (Some (command.Editors n)) b a t is = absurd (no_editing_usage n b.told t is)
usage_of (Some c) b a t is = absurd (texts.no_usage c b.told t is)

nothing_asked : (b a : Outside) (status : Status) → Ran None status b a → (status ≡ ending.Usage) ⊎ ((status ≡ ending.WriteFault) ⊎ (status ≡ ending.NoMemory))
nothing_asked b a ending.FolderFault r = absurd ((r.faults.0 refl).0.1)
nothing_asked b a ending.WriteFault r = inr (inl refl)
nothing_asked b a ending.NoMemory r = inr (inr refl)
nothing_asked b a status r = inl ((r.whole tt).1.0)

pub refusals_say_holds : RefusalsSay
refusals_say_holds = record {
  usage = λ b a c r. let h = r.whole tt in let l = usage_of c b a h.0 h.1 in (l.0, wrote_as b a h.0 _ h.2 l.1);
  asked = nothing_asked;
  missing_unread = λ b a c r. r.reads.2 refl;
  asked_unread = λ b a status r. r.reads.0 (λ none. none);
  bad_case = λ b a c has r. let h = (text_run c ending.BadCase b a has r).whole tt in let l = texts.bad_told c b.told h.0 h.1 in (l.0, l.1, l.2, l.3, wrote_as b a h.0 _ h.2 l.4);
  no_history = λ b a c has r. let h = (text_run c ending.NoHistory b a has r).whole tt in let l = texts.kept_told c b.told h.0 h.1 in (l.0, wrote_as b a h.0 _ h.2 l.1);
  too_long = λ b a c has r. let h = (text_run c ending.TooLong b a has r).whole tt in let l = texts.long_told c b.told h.0 h.1 in (l.0, l.1, l.2, wrote_as b a h.0 _ h.2 l.3);
  complete = λ b a status files c has r told calm quiet. completes c b a status files has r told calm quiet;
  missing = λ b a status files c e has r told is none. missing_told _ _ _ b a
      (λ due u under. texts.only_lacking c b.told files due (words_of e) u told (Err e, subst (λ (o : Option Files). Answers c o (Err e)) (sym told) none, texts.missing_is e is, refl) under) status (text_run c status b a has r);
}

-- ---- what stays
never : (t : Bool) → t ≡ false → t ≡ true → ⊥
never t fails holds = cc

off_unasked : (P : Doc → Type 0) (told : Option Files) (first : Doc → Bool) (second : Files → Doc → Bool) → ((d : Doc) → ((first d ≡ true) × IfSome told (λ files. second files d ≡ true) → ⊥) → P d)
    → IfSome told (λ files. (d : Doc) → second files d ≡ false → P d)
off_unasked P None first second stays = tt
off_unasked P (Some files) first second stays = λ d is. stays d (λ both. never (second files d) is both.1)

off_editing : (P : Doc → Type 0) (docs : List Doc) (told : Option Files) (first : Doc → Bool) (second : Files → Doc → Bool)
    → ((d : Doc) → (((first d ≡ true) × IfSome told (λ files. second files d ≡ true)) ⊎ Contains docs d → ⊥) → P d)
    → IfSome told (λ files. (d : Doc) → second files d ≡ false → (Contains docs d → ⊥) → P d)
off_editing P docs None first second stays = tt
off_editing P docs (Some files) first second stays = λ d is other. stays d (λ may. neither files d is other may)
  where
    neither : (files : Files) (d : Doc) → second files d ≡ false → (Contains docs d → ⊥) → (((first d ≡ true) × (second files d ≡ true)) ⊎ Contains docs d) → ⊥
    neither files d is other (inl both) = never (second files d) is both.1
    neither files d is other (inr has) = other has

off_other : (n : ℕ) (told : Option Files) (d : Doc) → is_case_file d ≡ false → (Contains (docs_of n) d → ⊥) → MayAsk told n d → ⊥
off_other n told d is other (inl both) = never (is_case_file d) is both.0
off_other n told d is other (inr has) = other has

pub files_stay_holds : FilesStay
files_stay_holds = record {
  untouched = λ b a status r d. r.touches.1 d (λ none. none);
  others = λ b a status c has r d out. (text_run c status b a has r).touches.1 d (λ may. never (may_fetch c d) out may.0);
  unasked = λ b a status c has r. off_unasked (λ d. a.faults d ≡ b.faults d) b.told (may_fetch c) (fetches c) (text_run c status b a has r).touches.1;
  session_others = λ b a status n r d out. r.touches.1 d (λ may. never (is_case_file d) out may.0);
  session_unasked = λ b a status n r. off_unasked (λ d. a.faults d ≡ b.faults d) b.told is_case_file asks_for r.touches.1;
  view_others = λ b a status n r d out. r.touches.1 d (λ may. never (is_case_file d) out may.0);
  view_unasked = λ b a status n r. off_unasked (λ d. a.faults d ≡ b.faults d) b.told is_case_file asks_for r.touches.1;
  editors_others = λ b a status n r d out other. r.touches.1 d (λ may. off_other n b.told d out other may);
  editors_unasked = λ b a status n r. off_editing (λ d. a.faults d ≡ b.faults d) (docs_of n) b.told is_case_file asks_for r.touches.1;
}
