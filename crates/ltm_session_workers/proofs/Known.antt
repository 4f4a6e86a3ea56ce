-- What the editor knows after an answer.
use Rattle.std.proofs.Common.{ℕ, ◌≡◌, ◌⊎◌, inl, inr, ◌++◌, ◌≤◌, List, [], refl, ap, sym, subst, ◌∙◌, arith}
use mathlib.Core.List.{IsPrefix}
use Rattle.std.specs.Prelude.{Option, Some, Result, Ok, Err, MatchResult, OnOk, OnErr, IfErr}
use Rattle.ltm_scenario.specs.declared.edit.Edit.{Edit}
use Rattle.ltm_scenario.specs.declared.edit.EditFault.{EditFault}
use Rattle.ltm_scenario.specs.Edits.{edited_all}
use Rattle.ltm_scenario.specs.Data.{ScenarioData}
use Rattle.ltm_core.specs.Shown.{version_of}
use Rattle.ltm_io.specs.Sink.{appended, AppendsFront}
use Rattle.ltm_script.specs.Line.{reading}
use Rattle.ltm_script.specs.declared.command.Command.{Command}
use Rattle.ltm_script.specs.declared.command.Command.TheVariants as command
use Rattle.ltm_script.specs.declared.command.CommandFault.{CommandFault}
use Rattle.ltm_report.specs.Answers.{settled_line}
use Rattle.ltm_core.specs.declared.entry.LogEntry.{LogEntry}
use Rattle.ltm_core.specs.Log.{Log, LogLaws, with_batch, with_mark, version_now, scenario_now}
use Rattle.ltm_core.specs.Told.{settles_of, told_of, TellsLog, marks_in}
use Rattle.ltm_core.specs.Telling.{ListLaws}
use Rattle.ltm_core.specs.Histories.{CameBy}
use Rattle.ltm_core.specs.Settling.{IsSettleCount}
use Rattle.ltm_core.specs.Cores.{CoreData}
use Rattle.ltm_core.specs.CoreAnswers.{LooksAs}
use Rattle.ltm_workers.specs.Beside.{SettlesBeside}
use Rattle.ltm_session.specs.declared.ends.SessionEnd.{SessionEnd}
use Rattle.ltm_session.specs.declared.ends.SessionEnd.TheVariants.{Ended, ReadFault, WriteFault, NoMemory}
use Rattle.ltm_session.specs.Analysts.{Analysts, opening_of, state_of, settled, IsShownLater}
use Rattle.ltm_session.specs.Answers.{Replies, Answers, AnswersAlone, AnswersBeside}
use Rattle.ltm_session.specs.Session.{IsSession, Wrote, end_of}
use Rattle.ltm_session.specs.Answerers.{Leads, AnswersBy, StopsBy, Serves}
use Rattle.ltm_session_workers.specs.Beside.{IsKnown, SaidBeside, LineBeside, StopsBeside, SessionBeside, ReadsAll}
use Rattle.ltm_session.proofs.Besides.{lines_beside}
use Rattle.ltm_session.proofs.Ending.{ends_as_told}
use Rattle.ltm_session.proofs.Looking.{looks_told}
use Rattle.ltm_session.proofs.Progress.{never_begun}

pub stays_shown : (s : Analysts) → s.shown ≤ version_now s.log → IsShownLater s s
stays_shown s finished = record { log = refl; settles = refl; later = omega arith; finished = finished }

-- ---- what a reply leaves
-- what is shown stays, also where there was no memory
edit_shows : (r : Result ScenarioData EditFault) (s t : Analysts) (batch : List Edit) (P : Type 0) (Q : EditFault → Type 0)
    → MatchResult r (λ _. P × (t ≡ record s { log = with_batch s.log batch })) (λ f. Q f × (t ≡ s)) → t.shown ≡ s.shown
edit_shows (Ok x) s t batch P Q (p, same) = ap (λ (a : Analysts). a.shown) same
edit_shows (Err f) s t batch P Q (p, same) = ap (λ (a : Analysts). a.shown) same

reply_shows : (s t : Analysts) (c : Command) (text : List ℕ) → Replies s (Ok c) text t → t.shown ≡ s.shown
reply_shows s t (command.Edit batch) text r = edit_shows (edited_all (scenario_now s.log) batch) s t batch _ _ r
reply_shows s t (command.Ask q) text (r, same) = ap (λ (a : Analysts). a.shown) same
reply_shows s t command.Settle text r = absurd r

pub reply_leaves : {A B : Type 0} (d e : CoreData) (c : Command) (old new : List ℕ) (r : Result A B)
    → OnOk r ((text : List ℕ) × Replies (state_of d) (Ok c) text (state_of e) × (new ≡ old ++ text)) → OnErr r ((new ≡ old) × LooksAs d e)
    → version_of e.shown ≡ version_of d.shown
reply_leaves d e c old new (Ok x) (text, r, wrote) failed = reply_shows (state_of d) (state_of e) c text r
reply_leaves d e c old new (Err x) made (still, same) = same.shown.version

-- ---- a line
answers_reply : (IsCount : Log → ℕ → Type 0) (s : Analysts) (c : Command) (text : List ℕ) (t : Analysts) → Replies s (Ok c) text t → Answers IsCount s (Ok c) text t
answers_reply IsCount s (command.Edit batch) text t r = r
answers_reply IsCount s (command.Ask q) text t r = r
answers_reply IsCount s command.Settle text t r = absurd r

-- a core whose list is known is at the machine that is known, but for what it shows
same_told : (laws : ListLaws) (d : CoreData) (s : Analysts) (list : List LogEntry) (seen : ℕ) → told_of d ≡ list → TellsLog (told_of d) d.log → IsKnown s list seen → (d.log ≡ s.log) × (settles_of d ≡ s.settles)
same_told laws d s list seen had tells known = (
  laws.one list d.log s.log (subst (λ l. TellsLog l d.log) had tells) known.log_is,
  sym (laws.settles d) ∙ ap marks_in had ∙ known.settles_are,
)

-- the machine of a core is known by its list
knows_core : (laws : ListLaws) (d : CoreData) (list : List LogEntry) (seen : ℕ) → list ≡ told_of d → TellsLog (told_of d) d.log → seen ≡ version_of d.shown → version_of d.shown ≤ version_now d.log
    → IsKnown (state_of d) list seen
knows_core laws d list seen is tells sees finished = record {
  log_is = subst (λ l. TellsLog l d.log) (sym is) tells;
  settles_are = ap marks_in is ∙ laws.settles d;
  seen_is = omega (arith, sees);
  finished = finished;
}

-- what holds of a core in a held turn, before a reply and after
pub record Held (d e : CoreData) (list list' : List LogEntry) (seen seen' : ℕ) : Type 0 where
  pub had : told_of d ≡ list
  pub saw : seen ≤ version_of d.shown
  pub tells : TellsLog (told_of d) d.log
  pub finished : version_of d.shown ≤ version_now d.log
  pub gave : list' ≡ told_of e
  pub sees : seen' ≡ version_of e.shown
  pub tells_then : TellsLog (told_of e) e.log
  pub finished_then : version_of e.shown ≤ version_now e.log

pub held_between : (held d e : CoreData) (list list' : List LogEntry) (seen seen' : ℕ) → d ≡ held → told_of held ≡ list → seen ≤ version_of held.shown → TellsLog (told_of d) d.log × TellsLog (told_of e) e.log
    → (version_of d.shown ≤ version_now d.log) × (version_of e.shown ≤ version_now e.log) → list' ≡ told_of e → seen' ≡ version_of e.shown → Held d e list list' seen seen'
held_between held d e list list' seen seen' at had saw tells finished gave sees = record {
  had = ap told_of at ∙ had;
  saw = subst (λ (x : CoreData). seen ≤ version_of x.shown) (sym at) saw;
  tells = tells.0;
  finished = finished.0;
  gave = gave;
  sees = sees;
  tells_then = tells.1;
  finished_then = finished.1;
}

-- a reply that was made in a held turn
replied : (laws : ListLaws) (d e : CoreData) (c : Command) (text : List ℕ) (list list' : List LogEntry) (seen seen' : ℕ) → Held d e list list' seen seen'
    → Replies (state_of d) (Ok c) text (state_of e) → SaidBeside (Ok c) text list seen list' seen'
unfolding SaidBeside
replied laws d e c text list list' seen seen' h made = λ s known.
    let seen_is = known.seen_is in
    let saw = h.saw in
    let (log, settles) = same_told laws d s list seen h.had h.tells known in (
      state_of e,
      (
        state_of d,
        record { log = log; settles = settles; later = omega (arith, saw, seen_is); finished = h.finished },
        answers_reply IsSettleCount (state_of d) c text (state_of e) made,
      ),
      knows_core laws e list' seen' h.gave h.tells_then h.sees h.finished_then,
    )

pub replied_with : {B : Type 0} (laws : ListLaws) (d e : CoreData) (c : Command) (list list' : List LogEntry) (seen seen' : ℕ) (old new : List ℕ) (r : Result (Unit {0}) B)
    → Held d e list list' seen seen'
    → OnOk r ((text : List ℕ) × Replies (state_of d) (Ok c) text (state_of e) × (new ≡ old ++ text))
    → OnOk r ((text : List ℕ) × SaidBeside (Ok c) text list seen list' seen' × (new ≡ old ++ text))
replied_with laws d e c list list' seen seen' old new (Ok x) h (text, made, wrote) =
    (text, replied laws d e c text list list' seen seen' h made, wrote)
replied_with laws d e c list list' seen seen' old new (Err x) h made = tt

-- where there was no memory
pub failed_with : {A B : Type 0} (laws : ListLaws) (d e : CoreData) (list list' : List LogEntry) (seen seen' : ℕ) (old new : List ℕ) (r : Result A B) → Held d e list list' seen seen'
    → version_of e.shown ≡ version_of d.shown → OnErr r ((new ≡ old) × LooksAs d e) → OnErr r ((new ≡ old) × (list' ≡ list) × (seen ≤ seen'))
failed_with laws d e list list' seen seen' old new (Ok x) h still is = tt
failed_with laws d e list list' seen seen' old new (Err x) h still (same, looks) =
    let saw = h.saw in
    let sees = h.sees in
    (same, h.gave ∙ looks_told d e laws looks ∙ h.had, omega (arith, saw, sees, still))

-- a settle that was made over several turns
pub settled_so : (logs : LogLaws) (laws : ListLaws) (version n : ℕ) (list list' : List LogEntry) (seen seen' : ℕ) → SettlesBeside list version n list' seen'
    → SaidBeside (Ok command.Settle) (settled_line version n) list seen list' seen'
unfolding SaidBeside SettlesBeside
settled_so logs laws version n list list' seen seen' (log, tells, counted, is, tells_then, more, sees) = λ s known.
    let same = laws.one list log s.log tells known.log_is in
    let all = logs.version_mark s.log in
    let settles = known.settles_are in (
      settled s,
      (
        s,
        stays_shown s known.finished,
        ((n, subst (λ l. IsSettleCount l n) same counted, ap (λ v. settled_line v n) (is ∙ ap version_now same)), refl),
      ),
      record {
        log_is = subst (λ l. TellsLog list' (with_mark l)) same tells_then;
        settles_are = omega (arith, more, settles);
        seen_is = subst (λ (l : Log). version_now l ≤ seen') same sees;
        finished = omega (arith, all);
      },
    )

-- a line that is no command
faulted : (f : CommandFault) (text : List ℕ) (list : List LogEntry) (seen : ℕ) → ((s : Analysts) → Replies s (Err f) text s) → SaidBeside (Err f) text list seen list seen
unfolding SaidBeside
faulted f text list seen made = λ s known. (s, (s, stays_shown s known.finished, made s), known)

line_said : (line text : List ℕ) (said : Result Command CommandFault) (list list' : List LogEntry) (seen seen' : ℕ) → said ≡ reading line
    → SaidBeside said text list seen list' seen' → LineBeside line text list seen list' seen'
unfolding SaidBeside LineBeside
line_said line text said list list' seen seen' reads is = λ s known.
    let (t, answered, knows) = is s known in (t, subst (λ r. AnswersBeside s r text t) reads answered, knows)

pub line_with : {A B : Type 0} (line : List ℕ) (said : Result Command CommandFault) (list list' : List LogEntry) (seen seen' : ℕ) (old new : List ℕ) (r : Result A B) → said ≡ reading line
    → OnOk r ((text : List ℕ) × SaidBeside said text list seen list' seen' × (new ≡ old ++ text))
    → OnOk r ((text : List ℕ) × LineBeside line text list seen list' seen' × (new ≡ old ++ text))
line_with line said list list' seen seen' old new (Ok x) reads (text, is, wrote) = (text, line_said line text said list list' seen seen' reads is, wrote)
line_with line said list list' seen seen' old new (Err x) reads made = tt

pub fault_with : {A B : Type 0} (line : List ℕ) (f : CommandFault) (list : List LogEntry) (seen : ℕ) (old new : List ℕ) (r : Result A B) → Err f ≡ reading line
    → OnOk r ((text : List ℕ) × ((s : Analysts) → Replies s (Err f) text s) × (new ≡ old ++ text))
    → OnOk r ((text : List ℕ) × LineBeside line text list seen list seen × (new ≡ old ++ text))
fault_with line f list seen old new (Ok x) reads (text, made, wrote) = (text, line_said line text (Err f) list list seen seen reads (faulted f text list seen made), wrote)
fault_with line f list seen old new (Err x) reads made = tt

-- what is known where nothing but what is shown may have changed
pub known_later : (s : Analysts) (list list' : List LogEntry) (seen seen' : ℕ) → list' ≡ list → seen ≤ seen' → IsKnown s list seen → IsKnown s list' seen'
known_later s list list' seen seen' same later known =
    let seen_is = known.seen_is in record {
      log_is = subst (λ l. TellsLog l s.log) (sym same) known.log_is;
      settles_are = ap marks_in same ∙ known.settles_are;
      seen_is = omega (arith, later, seen_is);
      finished = known.finished;
    }

-- a line for which there was no memory: nothing was done, and nothing is written
pub stops_undone : (line : List ℕ) (old : Option (List ℕ)) (list list' : List LogEntry) (seen seen' : ℕ) → list' ≡ list → seen ≤ seen'
    → StopsBeside line NoMemory old old list seen list' seen'
unfolding StopsBeside
stops_undone line old list list' seen seen' same later = λ s known. (s, (inr refl, inl (refl, refl)), known_later s list list' seen seen' same later known)

-- a line whose answer was written in part
stops_writing : (line text : List ℕ) (end : SessionEnd) (old new : Option (List ℕ)) (list list' : List LogEntry) (seen seen' : ℕ) → (end ≡ WriteFault) ⊎ (end ≡ NoMemory)
    → LineBeside line text list seen list' seen' → AppendsFront old new text → StopsBeside line end old new list seen list' seen'
unfolding LineBeside StopsBeside
stops_writing line text end old new list list' seen seen' fails is front = λ s known.
    let (t, answered, knows) = is s known in (t, (fails, inr (text, answered, front)), knows)

-- the same, where the answer stands in a text that was empty before
pub stops_text : (line words bytes items before : List ℕ) (end : SessionEnd) (old new : Option (List ℕ)) (list list' : List LogEntry) (seen seen' : ℕ) → (end ≡ WriteFault) ⊎ (end ≡ NoMemory)
    → LineBeside line words list seen list' seen' → bytes ≡ items → items ≡ before ++ words → before ≡ [] → AppendsFront old new bytes → StopsBeside line end old new list seen list' seen'
stops_text line words bytes items before end old new list list' seen seen' fails is same longer none front =
    stops_writing line words end old new list list' seen seen' fails is
    (subst (λ b. AppendsFront old new b) (same ∙ longer ∙ ap (λ b. b ++ words) none) front)

-- ---- an answerer of any kind
-- a line was answered, and a session stopped at one
pub answered_beside : {A B : Type 0} (line : List ℕ) (list list' : List LogEntry) (seen seen' : ℕ) (old new : Option (List ℕ)) (r : Result A B)
    → OnOk r ((words : List ℕ) × LineBeside line words list seen list' seen' × (new ≡ appended words old))
    → OnOk r ((words : List ℕ) × AnswersBy AnswersBeside (λ s. IsKnown s list seen) (λ s. IsKnown s list' seen') line words × (new ≡ appended words old))
unfolding LineBeside Leads
answered_beside line list list' seen seen' old new (Ok x) (words, is, wrote) = (words, is, wrote)
answered_beside line list list' seen seen' old new (Err x) is = tt

pub stopped_beside : {A : Type 0} (line : List ℕ) (list list' : List LogEntry) (seen seen' : ℕ) (old new : Option (List ℕ)) (r : Result A SessionEnd)
    → IfErr r (λ end. StopsBeside line end old new list seen list' seen') → IfErr r (λ end. (end ≡ WriteFault) ⊎ (end ≡ NoMemory))
    → IfErr r (λ end. StopsBy AnswersBeside (λ s. IsKnown s list seen) (λ s. IsKnown s list' seen') line end old new)
unfolding StopsBeside Leads
stopped_beside line list list' seen seen' old new (Ok x) is which = tt
stopped_beside line list list' seen seen' old new (Err end) is which = record { which = which; leads = is }

-- a script was served
pub session_served : (told left w w1 : Option (List ℕ)) (end : SessionEnd) (list list' : List LogEntry) (seen seen' : ℕ)
    → Serves AnswersBeside (λ s. IsKnown s list seen) (λ s. IsKnown s list' seen') told left end w w1 → SessionBeside told left end w w1 list seen list' seen'
unfolding SessionBeside
session_served told left w w1 end list list' seen seen' served = served.session

pub script_read : (told left w w1 : Option (List ℕ)) (end : SessionEnd) (list list' : List LogEntry) (seen seen' : ℕ)
    → Serves AnswersBeside (λ s. IsKnown s list seen) (λ s. IsKnown s list' seen') told left end w w1 → ReadsAll told end left
unfolding ReadsAll
script_read told left w w1 end list list' seen seen' served = served.read

-- what is known later
pub session_later : (told left w w1 : Option (List ℕ)) (end : SessionEnd) (list list1 list2 : List LogEntry) (seen seen1 seen2 : ℕ) → SessionBeside told left end w w1 list seen list1 seen1
    → list2 ≡ list1 → seen1 ≤ seen2 → SessionBeside told left end w w1 list seen list2 seen2
unfolding SessionBeside
session_later told left w w1 end list list1 list2 seen seen1 seen2 so same later = λ s known.
    let (output, t, session, wrote, knows) = so s known in
    (output, t, session, wrote, known_later t list1 list2 seen1 seen2 same later knows)

-- a session between two states, of which the first was known by other names and the second is known later
pub session_between : (told left w w1 : Option (List ℕ)) (end : SessionEnd) (list0 list list1 list2 : List LogEntry) (seen0 seen seen1 seen2 : ℕ) → list ≡ list0 → seen ≡ seen0
    → SessionBeside told left end w w1 list seen list1 seen1 → list2 ≡ list1 → seen1 ≤ seen2 → SessionBeside told left end w w1 list0 seen0 list2 seen2
session_between told left w w1 end list0 list list1 list2 seen0 seen seen1 seen2 first saw so same later =
    subst (λ l. SessionBeside told left end w w1 l seen0 list2 seen2) first
    (subst (λ n. SessionBeside told left end w w1 list n list2 seen2) saw (session_later told left w w1 end list list1 list2 seen seen1 seen2 so same later))

-- the list that was found, and what a reply put behind it
pub grown_list : (found mine : List LogEntry) (held d e : CoreData) → d ≡ held → told_of held ≡ mine → found ≡ mine
    → IsPrefix (told_of d) (told_of e) → IsPrefix found (told_of e)
grown_list found mine held d e at had is (rest, longer) =
    (rest, ap (λ l. l ++ rest) (is ∙ sym had ∙ ap told_of (sym at)) ∙ longer)

pub read_whole : (told left : Option (List ℕ)) (end : SessionEnd) → ReadsAll told end left → (script : List ℕ) → told ≡ Some script → end ≡ Ended → left ≡ Some []
unfolding ReadsAll
read_whole told left end reads = reads

-- ---- what the core that is handed back has
-- what it has when a session was answered by this rule
abbrev pub HandsBack : CoreData → Option (List ℕ) → Option (List ℕ) → SessionEnd → Option (List ℕ) → Option (List ℕ) → CoreData → Type 0
HandsBack d told left end old new e = (output : List ℕ) × (t : Analysts) × IsSession AnswersBeside (opening_of d) told left end output t × Wrote end old new output
    × (e.log ≡ t.log) × (settles_of e ≡ t.settles)

-- an editor that has a core which accepted nothing knows its machine
knows_first : (laws : ListLaws) (d : CoreData) (list : List LogEntry) (seen : ℕ) → CameBy d → state_of d ≡ opening_of d → list ≡ told_of d → seen ≡ version_of d.shown
    → IsKnown (opening_of d) list seen
knows_first laws d list seen came fresh is sees =
    let none : version_of d.shown ≡ 0 = ap (λ (a : Analysts). a.shown) fresh in
    subst (λ (a : Analysts). IsKnown a list seen) fresh (knows_core laws d list seen is (laws.log d came) sees (omega (arith, none)))

pub served_beside : (laws : ListLaws) (told left w w1 : Option (List ℕ)) (end : SessionEnd) (d e : CoreData) (list list1 : List LogEntry) (seen seen1 : ℕ) → CameBy d → CameBy e → state_of d ≡ opening_of d
    → list ≡ told_of d → seen ≡ version_of d.shown → SessionBeside told left end w w1 list seen list1 seen1 → told_of e ≡ list1
    → HandsBack d told left end w w1 e
unfolding SessionBeside
served_beside laws told left w w1 end d e list list1 seen seen1 came came_then fresh is sees session has =
    let (output, t, so, wrote, knows) = session (opening_of d) (knows_first laws d list seen came fresh is sees) in
    let (log, settles) = same_told laws e t list1 seen1 has (laws.log e came_then) knows in
    (output, t, so, wrote, log, settles)

pub never_served : (told left w : Option (List ℕ)) (d e : CoreData) → state_of d ≡ opening_of d → e ≡ d → HandsBack d told left NoMemory w w e
never_served told left w d e fresh same =
    let (output, so, wrote) = never_begun AnswersBeside (opening_of d) told left w in
    (output, opening_of d, so, wrote, ap (λ (x : CoreData). x.log) same ∙ ap (λ (a : Analysts). a.log) fresh, ap (λ (x : CoreData). settles_of x) same)

-- a session without workers is a session
pub served_alone : (laws : LogLaws) (told left w w1 : Option (List ℕ)) (end : SessionEnd) (d e : CoreData)
    → ((output : List ℕ) × IsSession AnswersAlone (opening_of d) told left end output (state_of e) × Wrote end w w1 output)
    → HandsBack d told left end w w1 e
served_alone laws told left w w1 end d e (output, so, wrote) = (
  output,
  state_of e,
  record {
    answered = so.answered;
    few = so.few;
    fit = so.fit;
    runs = lines_beside laws (opening_of d) so.answered output (state_of e) (omega arith) so.runs;
    ends = so.ends;
    came = so.came;
  },
  wrote,
  refl,
  refl,
)

pub ends_beside : (told left w w1 : Option (List ℕ)) (end : SessionEnd) (d e : CoreData) → HandsBack d told left end w w1 e
    → (script : List ℕ) → told ≡ Some script → (end ≡ ReadFault → ⊥) → (end ≡ WriteFault → ⊥) → (end ≡ NoMemory → ⊥) → end ≡ end_of script
ends_beside told left w w1 end d e (output, t, so, wrote, log, settles) = ends_as_told AnswersBeside (opening_of d) told left output end t so
