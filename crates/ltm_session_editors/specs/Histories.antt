-- Histories of editors who have a script each.
use Rattle.std.specs.Prelude.{ℕ, zero, suc, ◌≡◌, List, [], map, slice_index_or}
use Rattle.ltm_scenario.specs.declared.edit.Edit.{Edit}
use Rattle.ltm_scenario.specs.Data.{ScenarioData}
use Rattle.ltm_editors.specs.declared.call.Call.{Call}
use Rattle.ltm_editors.specs.Lists.{entries_of}
use Rattle.ltm_editors.specs.History.{IsLegalHistory}
use Rattle.ltm_editors.specs.Offices.{editor_of}

-- the batches of the calls of an editor, in order
abbrev pub batches_by : ℕ → List Call → List (List Edit)
batches_by editor history = map (λ call. call.batch.value) (entries_of editor_of editor history)

-- the script of an editor, counted from 1; a number that is no editor's has none
abbrev pub script_by : List (List (List Edit)) → ℕ → List (List Edit)
script_by scripts zero = []
script_by scripts (suc n) = slice_index_or scripts n []

-- all that the editors of these scripts did is one legal history: the calls of each are the batches of its script, each once and
-- in order, and nobody else made one
pub record IsHistoryOf (opening : ScenarioData) (scripts : List (List (List Edit))) (history : List Call) : Type 0 where
  pub legal : IsLegalHistory opening history
  pub calls : (n : ℕ) → batches_by n history ≡ script_by scripts n
