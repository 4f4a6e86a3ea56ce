-- What is answered to a line, and how the machine stands then.
use Rattle.std.specs.Prelude.{◌≡◌, ℕ, ◌+◌, List, Result, Ok, Err, MatchResult}
use Rattle.ltm_flows.specs.Counts.{Counts}
use Rattle.ltm_scenario.specs.declared.edit.Edit.{Edit}
use Rattle.ltm_scenario.specs.Edits.{edited_all}
use Rattle.ltm_scenario.specs.IsScenario.{IsScenario}
use Rattle.ltm_loading.specs.Loading.{IsLoading}
use Rattle.ltm_script.specs.declared.command.Command.{Command}
use Rattle.ltm_script.specs.declared.command.Command.TheVariants as command
use Rattle.ltm_script.specs.declared.command.Question.{Question}
use Rattle.ltm_script.specs.declared.command.CommandFault.{CommandFault}
use Rattle.ltm_script.specs.declared.command.CommandFault.TheVariants as fault
use Rattle.ltm_report.specs.Answers.{accepted_line, settled_line}
use Rattle.ltm_report.specs.EditFaults.{edit_fault_line}
use Rattle.ltm_report.specs.CommandFaults.{command_fault_line}
use Rattle.ltm_core.specs.Log.{Log, with_batch, version_now, settled_of, scenario_at, scenario_now}
use Rattle.ltm_core.specs.Settling.{setting_at, IsSettleCount, IsExactCount}
use Rattle.ltm_session.specs.Questions.{Report, asked}
use Rattle.ltm_session.specs.Analysts.{Analysts, shown_scenario, settled, IsShownLater}

-- the scenario after so many batches is one, of the opening network
pub record IsScenarioOf (log : Log) (k : ℕ) : Type 0 where
  pub scenario : IsScenario (scenario_at log k)
  pub network : (scenario_at log k).network ≡ log.opening.network

-- ---- edits
-- the batch is accepted and put last, or its first fault is told and nothing changes
abbrev pub EditsAll : Analysts → List Edit → List ℕ → Analysts → Type 0
EditsAll s batch text t = MatchResult (edited_all (scenario_now s.log) batch)
    (λ _. (text ≡ accepted_line (version_now s.log + 1)) × (t ≡ record s { log = with_batch s.log batch }))
    (λ fault. (text ≡ edit_fault_line fault) × (t ≡ s))

-- ---- questions
-- the text reports the loading of the scenario that is shown, and its version: there is a loading, and there is no other
abbrev pub ReportsShown : Analysts → Report → List ℕ → Type 0
ReportsShown s report text = (c : Counts) × IsScenarioOf s.log s.shown × IsLoading (setting_at s.log s.shown) c
    × (text ≡ report s.shown (setting_at s.log s.shown) c)

-- what a question asks of what is shown is reported, or the question is refused; no edit changes the names of links and nodes
abbrev pub TellsAsked : Analysts → Question → List ℕ → Type 0
TellsAsked s question text = MatchResult (asked s.log.opening.network (shown_scenario s).setup.slots question)
    (λ report. ReportsShown s report text)
    (λ refusal. text ≡ refusal)

-- ---- all lines
-- the answer to what a line was read as, where that is no settle
abbrev pub Replies : Analysts → Result Command CommandFault → List ℕ → Analysts → Type 0
Replies s (Ok (command.Edit batch)) text t = EditsAll s batch text t
Replies s (Ok (command.Ask question)) text t = TellsAsked s question text × (t ≡ s)
Replies s (Ok command.Settle) text t = ⊥
Replies s (Err fault.NotJson) text t = (text ≡ command_fault_line fault.NotJson) × (t ≡ s)
Replies s (Err (fault.NotCommand place)) text t = (text ≡ command_fault_line (fault.NotCommand place)) × (t ≡ s)
Replies s (Err fault.NoMemory) text t = ⊥

-- a settle shows and settles all batches; the rule says which counts it may give
abbrev pub Settles : (Log → ℕ → Type 0) → Analysts → List ℕ → Analysts → Type 0
Settles IsCount s text t = ((n : ℕ) × IsCount s.log n × (text ≡ settled_line (version_now s.log) n)) × (t ≡ settled s)

-- the answer to what a line was read as
abbrev pub Answers : (Log → ℕ → Type 0) → Analysts → Result Command CommandFault → List ℕ → Analysts → Type 0
Answers IsCount s (Ok command.Settle) text t = Settles IsCount s text t
Answers IsCount s (Ok (command.Edit batch)) text t = Replies s (Ok (command.Edit batch)) text t
Answers IsCount s (Ok (command.Ask question)) text t = Replies s (Ok (command.Ask question)) text t
Answers IsCount s (Err fault) text t = Replies s (Err fault) text t

-- a settle without workers counts exactly the pairs that differ between what was settled last and what is settled now
pub record CountsAlone (log : Log) (n : ℕ) : Type 0 where
  pub before : IsScenarioOf log (settled_of log)
  pub after : IsScenarioOf log (version_now log)
  pub exact : IsExactCount log n

-- without workers nothing is shown in between, and the count is exact
abbrev pub AnswersAlone : Analysts → Result Command CommandFault → List ℕ → Analysts → Type 0
AnswersAlone s said text t = Answers CountsAlone s said text t

-- beside workers a later loading may come to be shown before an answer
abbrev pub AnswersBeside : Analysts → Result Command CommandFault → List ℕ → Analysts → Type 0
AnswersBeside s said text t = (u : Analysts) × IsShownLater s u × Answers IsSettleCount u said text t
