-- How many settles are counted over a script.
use Rattle.std.proofs.Common.{ℕ, ◌≡◌, ◌+◌, List, [], ◌∷◌, ap, ◌∙◌, arith}
use Rattle.std.specs.Prelude.{Result, Ok, Err, MatchResult}
use Rattle.ltm_scenario.specs.declared.edit.Edit.{Edit}
use Rattle.ltm_scenario.specs.declared.edit.EditFault.{EditFault}
use Rattle.ltm_scenario.specs.Data.{ScenarioData}
use Rattle.ltm_scenario.specs.Edits.{edited_all}
use Rattle.ltm_script.specs.Line.{reading}
use Rattle.ltm_script.specs.declared.command.Command.{Command}
use Rattle.ltm_script.specs.declared.command.Command.TheVariants as command
use Rattle.ltm_script.specs.declared.command.CommandFault.{CommandFault}
use Rattle.ltm_script.specs.declared.command.CommandFault.TheVariants as fault
use Rattle.ltm_core.specs.Log.{Log, with_batch, scenario_now}
use Rattle.ltm_core.specs.Settling.{IsSettleCount}
use Rattle.ltm_session.specs.Analysts.{Analysts}
use Rattle.ltm_session.specs.Answers.{Answers, CountsAlone, AnswersAlone, AnswersBeside}
use Rattle.ltm_session.specs.Session.{Answering}
use Rattle.ltm_session.specs.Laws.{settle_said, settling, CountsEach, LinesSettleOnce}

same_count : (s t : Analysts) → t ≡ s → t.settles ≡ s.settles + 0
same_count s t same = ap (λ (a : Analysts). a.settles) same ∙ omega arith

edit_count : (r : Result ScenarioData EditFault) (s t : Analysts) (batch : List Edit) (P : Type 0) (Q : EditFault → Type 0)
    → MatchResult r (λ _. P × (t ≡ record s { log = with_batch s.log batch })) (λ f. Q f × (t ≡ s)) → t.settles ≡ s.settles + 0
edit_count (Ok x) s t batch P Q (p, same) = ap (λ (a : Analysts). a.settles) same ∙ omega arith
edit_count (Err f) s t batch P Q (p, same) = same_count s t same

answer_count : (IsCount : Log → ℕ → Type 0) (s : Analysts) (said : Result Command CommandFault) (text : List ℕ) (t : Analysts) → Answers IsCount s said text t → t.settles ≡ s.settles + settle_said said
answer_count IsCount s (Ok command.Settle) text t (count, same) = ap (λ (a : Analysts). a.settles) same
answer_count IsCount s (Ok (command.Edit batch)) text t a = edit_count (edited_all (scenario_now s.log) batch) s t batch _ _ a
answer_count IsCount s (Ok (command.Ask q)) text t (told, same) = same_count s t same
answer_count IsCount s (Err fault.NotJson) text t (told, same) = same_count s t same
answer_count IsCount s (Err (fault.NotCommand place)) text t (told, same) = same_count s t same
answer_count IsCount s (Err fault.NoMemory) text t none = absurd none

alone_count : (s : Analysts) (said : Result Command CommandFault) (text : List ℕ) (t : Analysts) → AnswersAlone s said text t → t.settles ≡ s.settles + settle_said said
alone_count s said text t a = answer_count CountsAlone s said text t a

beside_count : (s : Analysts) (said : Result Command CommandFault) (text : List ℕ) (t : Analysts) → AnswersBeside s said text t → t.settles ≡ s.settles + settle_said said
beside_count s said text t (u, later, a) = answer_count IsSettleCount u said text t a ∙ ap (λ (n : ℕ). n + settle_said said) later.settles

each_count : (answers : Answering) → ((s : Analysts) (said : Result Command CommandFault) (text : List ℕ) (t : Analysts) → answers s said text t → t.settles ≡ s.settles + settle_said said) → CountsEach answers
each_count answers one s t [] output (none, same) = same_count s t same
each_count answers one s t (line ∷ lines) output (u, text, rest, first, others, whole) =
    let here : u.settles ≡ s.settles + settle_said (reading line) = one s (reading line) text u first in
    let then : t.settles ≡ u.settles + settling lines = each_count answers one u t lines rest others in
    omega (here, then, arith)

pub lines_settle_once_holds : LinesSettleOnce
lines_settle_once_holds = record { beside = each_count AnswersBeside beside_count; alone = each_count AnswersAlone alone_count }
