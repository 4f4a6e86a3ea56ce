-- Histories of calls, and when one is legal.
use Rattle.std.specs.Prelude.{◌≡◌, ℕ, ◌+◌, List, [], ◌∷◌, ◌++◌, length, Result, Ok, Err}
use Rattle.ltm_scenario.specs.declared.edit.Edit.{Edit}
use Rattle.ltm_scenario.specs.declared.edit.EditFault.{EditFault}
use Rattle.ltm_scenario.specs.Data.{ScenarioData}
use Rattle.ltm_scenario.specs.Edits.{edited_all}
use Rattle.ltm_core.specs.Log.{after_batches}
use Rattle.ltm_editors.specs.declared.call.Call.{Call}
use Rattle.ltm_editors.specs.declared.call.Verdict.{Verdict}
use Rattle.ltm_editors.specs.declared.call.Verdict.TheVariants.{Accepted, Refused}

-- the batch, where it was accepted
abbrev pub if_accepted : Verdict → List Edit → List (List Edit)
if_accepted (Accepted number) batch = batch ∷ []
if_accepted (Refused fault) batch = []

-- the batches of a history that were accepted, in order
abbrev pub accepted_in : List Call → List (List Edit)
accepted_in [] = []
accepted_in (call ∷ calls) = if_accepted call.verdict call.batch.value ++ accepted_in calls

-- after so many accepted batches an edited scenario means that the batch is accepted, as the next one; and a fault that it is
-- refused for that
abbrev pub as_verdict : ℕ → Result ScenarioData EditFault → Verdict
as_verdict before (Ok edited) = Accepted (before + 1)
as_verdict before (Err fault) = Refused fault

-- what a batch is to be answered on the opening scenario after these batches
abbrev pub verdict_after : ScenarioData → List (List Edit) → List Edit → Verdict
verdict_after opening batches batch = as_verdict (length batches) (edited_all (after_batches opening batches) batch)

-- each call was answered as its batch is to be after those that were accepted before it
abbrev pub IsLegalHistory : ScenarioData → List Call → Type 0
IsLegalHistory opening history = (before : List Call) (call : Call) (after : List Call) → history ≡ before ++ call ∷ after →
    call.verdict ≡ verdict_after opening (accepted_in before) call.batch.value

-- the history has one call more, at its end: of this editor, with this batch and this verdict
pub record PutsCall (old : List Call) (editor : ℕ) (batch : List Edit) (verdict : Verdict) (new : List Call) : Type 0 where
  pub call : Call
  pub last : new ≡ old ++ call ∷ []
  pub of_editor : call.editor ≡ editor
  pub with_batch : call.batch.value ≡ batch
  pub with_verdict : call.verdict ≡ verdict
