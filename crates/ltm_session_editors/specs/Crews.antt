-- What a crew of editors has done, as its first seat has seen it.
use Rattle.std.specs.Prelude.{ℕ, ◌≡◌, ◌+◌, ◌<◌, List, [], length, slice_index_or}
use Rattle.std.specs.List.{Contains}
use Rattle.ltm_scenario.specs.declared.edit.Edit.{Edit}
use Rattle.ltm_editors.specs.declared.call.Call.{Call}
use Rattle.ltm_session_editors.specs.Histories.{batches_by}

-- the editors of these scripts, counted on from a number, were joined, and made all calls of their scripts; the first made none
pub record MadeAll (number : ℕ) (scripts : List (List (List Edit))) (numbers : List ℕ) (seen : List Call) : Type 0 where
  pub first : Contains numbers 0
  pub none : batches_by 0 seen ≡ []
  pub joined : (i : ℕ) → i < length scripts → Contains numbers (number + i)
  pub calls : (i : ℕ) → i < length scripts → batches_by (number + i) seen ≡ slice_index_or scripts i []
