-- An office: a core, and the history of the calls that were made on it.
use Rattle.std.specs.Prelude.{◌≡◌, ℕ, List, length, Err}
use Rattle.ltm_scenario.specs.declared.edit.Edit.{Edit}
use Rattle.ltm_scenario.specs.Data.{ScenarioData}
use Rattle.ltm_scenario.specs.Edits.{edited_all}
use Rattle.ltm_core.specs.Log.{batches_of, scenario_now}
use Rattle.ltm_core.specs.Cores.{CoreData, IsNoneOut}
use Rattle.ltm_core.specs.CoreAnswers.{AcceptsBatch, LooksAs}
use Rattle.ltm_editors.specs.declared.call.Call.{Call}
use Rattle.ltm_editors.specs.declared.call.Verdict.{Verdict}
use Rattle.ltm_editors.specs.declared.call.Verdict.TheVariants.{Accepted, Refused}
use Rattle.ltm_editors.specs.History.{accepted_in, verdict_after, IsLegalHistory, PutsCall}

pub record OfficeData : Type 0 where
  pub core : CoreData
  pub history : List Call

-- an office as it is kept
abbrev pub office_of : CoreData → List Call → OfficeData
office_of core history = record { core = core; history = history }

-- the scenario with which its core began
abbrev pub opening_of : OfficeData → ScenarioData
opening_of o = o.core.log.opening

abbrev pub history_of : OfficeData → List Call
history_of o = o.history

-- the number of the seat that made a call
abbrev pub editor_of : Call → ℕ
editor_of call = call.editor

-- no claim of the core is out, the history is legal on its opening scenario, and the batches that were accepted are the core's
pub record IsOffice (core : CoreData) (history : List Call) : Type 0 where
  pub none_out : IsNoneOut core
  pub legal : IsLegalHistory core.log.opening history
  pub accepted : batches_of core.log ≡ accepted_in history

-- what a verdict says of the core: it accepted the batch, which is the last of so many; or it refused it, and all but room is
-- as before
abbrev pub TellsVerdict : CoreData → List Edit → Verdict → CoreData → Type 0
TellsVerdict old batch (Accepted number) new = AcceptsBatch old batch new × (number ≡ length (batches_of new.log))
TellsVerdict old batch (Refused fault) new = LooksAs old new × (edited_all (scenario_now old.log) batch ≡ Err fault)

-- a call is answered: with the verdict that the batch is to have, which the core bears out, and which stands last in the history
pub record AnswersCall (old : OfficeData) (editor : ℕ) (batch : List Edit) (verdict : Verdict) (new : OfficeData) : Type 0 where
  pub answer : verdict ≡ verdict_after (opening_of old) (accepted_in old.history) batch
  pub core : TellsVerdict old.core batch verdict new.core
  pub put : PutsCall old.history editor batch verdict new.history

-- no call is made: all but room is as before
pub record StaysAs (old new : OfficeData) : Type 0 where
  pub history : new.history ≡ old.history
  pub core : LooksAs old.core new.core
