-- A session without workers is a session in which nothing is shown in between.
use Rattle.std.proofs.Common.{ℕ, ◌≡◌, ◌≤◌, ◌+◌, List, [], ◌∷◌, refl, sym, subst, arith}
use Rattle.std.specs.Prelude.{Result, Ok, Err, MatchResult}
use Rattle.ltm_scenario.specs.declared.edit.Edit.{Edit}
use Rattle.ltm_scenario.specs.declared.edit.EditFault.{EditFault}
use Rattle.ltm_scenario.specs.Data.{ScenarioData}
use Rattle.ltm_scenario.specs.Edits.{edited_all}
use Rattle.ltm_script.specs.Line.{reading}
use Rattle.ltm_script.specs.declared.command.Command.{Command}
use Rattle.ltm_script.specs.declared.command.Command.TheVariants as command
use Rattle.ltm_script.specs.declared.command.CommandFault.{CommandFault}
use Rattle.ltm_script.specs.declared.command.CommandFault.TheVariants as fault
use Rattle.ltm_report.specs.Answers.{accepted_line}
use Rattle.ltm_report.specs.EditFaults.{edit_fault_line}
use Rattle.ltm_io.specs.Script.{lines_of}
use Rattle.ltm_core.specs.Log.{Log, LogLaws, with_batch, version_now, scenario_now}
use Rattle.ltm_core.specs.Settling.{IsSettleCount, IsExactCount}
use Rattle.ltm_session.specs.Analysts.{Analysts, opening_state, settled}
use Rattle.ltm_session.specs.Answers.{Answers, CountsAlone, AnswersAlone, AnswersBeside}
use Rattle.ltm_session.specs.Session.{AnswersLine, AnswersLines}
use Rattle.ltm_session.specs.Laws.{AloneIsASession}

settle_count : (log : Log) (n : ℕ) → CountsAlone log n → IsSettleCount log n
unfolding IsExactCount
settle_count log n c = let (count, rest) = c.exact in count

count_beside : (s : Analysts) (said : Result Command CommandFault) (text : List ℕ) (t : Analysts) → Answers CountsAlone s said text t → Answers IsSettleCount s said text t
count_beside s (Ok command.Settle) text t ((n, count, is), same) = ((n, settle_count s.log n count, is), same)
count_beside s (Ok (command.Edit batch)) text t a = a
count_beside s (Ok (command.Ask q)) text t a = a
count_beside s (Err f) text t a = a

-- no more batches are shown than accepted
abbrev IsFinished : Analysts → Type 0
IsFinished s = s.shown ≤ version_now s.log

stays_finished : (s t : Analysts) → t ≡ s → IsFinished s → IsFinished t
stays_finished s t same is = subst (λ (u : Analysts). IsFinished u) (sym same) is

edit_finished : (laws : LogLaws) (s t : Analysts) (batch : List Edit) (text : List ℕ) (made : Result ScenarioData EditFault) → IsFinished s
    → MatchResult made (λ _. (text ≡ accepted_line (version_now s.log + 1)) × (t ≡ record s { log = with_batch s.log batch })) (λ f. (text ≡ edit_fault_line f) × (t ≡ s))
    → IsFinished t
edit_finished laws s t batch text (Ok next) is (wrote, same) =
    let more = laws.version_batch s.log batch in
    stays_finished (record s { log = with_batch s.log batch }) t same (omega (arith, more))
edit_finished laws s t batch text (Err f) is (wrote, same) = stays_finished s t same is

settled_finished : (laws : LogLaws) (s : Analysts) → IsFinished (settled s)
settled_finished laws s = let same = laws.version_mark s.log in omega (arith, same)

finished : (laws : LogLaws) (s : Analysts) (said : Result Command CommandFault) (text : List ℕ) (t : Analysts) → IsFinished s → Answers CountsAlone s said text t → IsFinished t
finished laws s (Ok command.Settle) text t is (count, same) = stays_finished (settled s) t same (settled_finished laws s)
finished laws s (Ok (command.Edit batch)) text t is a = edit_finished laws s t batch text (edited_all (scenario_now s.log) batch) is a
finished laws s (Ok (command.Ask q)) text t is (told, same) = stays_finished s t same is
finished laws s (Err fault.NotJson) text t is (told, same) = stays_finished s t same is
finished laws s (Err (fault.NotCommand place)) text t is (told, same) = stays_finished s t same is
finished laws s (Err fault.NoMemory) text t is none = absurd none

line_beside : (laws : LogLaws) (s : Analysts) (line text : List ℕ) (t : Analysts) → IsFinished s → AnswersLine AnswersAlone s line text t → AnswersLine AnswersBeside s line text t × IsFinished t
line_beside laws s line text t is a = (
  (s, record { log = refl; settles = refl; later = omega arith; finished = is }, count_beside s (reading line) text t a),
  finished laws s (reading line) text t is a,
)

pub lines_beside : (laws : LogLaws) (s : Analysts) (lines : List (List ℕ)) (output : List ℕ) (t : Analysts) → IsFinished s → AnswersLines AnswersAlone s lines output t → AnswersLines AnswersBeside s lines output t
lines_beside laws s [] output t is a = a
lines_beside laws s (line ∷ lines) output t is (u, text, rest, first, others, whole) =
    let (beside, after) = line_beside laws s line text u is first in
    (u, text, rest, beside, lines_beside laws u lines rest t after others, whole)

pub alone_is_a_session_holds : LogLaws → AloneIsASession
alone_is_a_session_holds laws s script output (t, a) =
    let none : 0 ≤ version_now (opening_state s 0).log = omega arith in
    (t, lines_beside laws (opening_state s 0) (lines_of script) output t none a)
