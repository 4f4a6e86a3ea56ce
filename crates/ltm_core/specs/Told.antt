-- What a core tells whoever takes turns with it: what its editor did to it, which all others leave as it is.
use Rattle.std.specs.Prelude.{◌≡◌, ℕ, ◌+◌, List, [], ◌∷◌, reverse}
use Rattle.ltm_scenario.specs.declared.edit.Edit.{Edit}
use Rattle.ltm_scenario.specs.Data.{ScenarioData}
use Rattle.ltm_repair.specs.Events.{CoreEvent, Accept, Settle}
use Rattle.ltm_repair.specs.Runs.{in_all}
use Rattle.ltm_core.specs.declared.entry.LogEntry.{LogEntry}
use Rattle.ltm_core.specs.declared.entry.LogEntry.TheVariants.{Opening, Accepted, Mark}
use Rattle.ltm_core.specs.Log.{Log, batches_of, with_batch, with_mark}
use Rattle.ltm_core.specs.Cores.{CoreData}

-- ---- how many settles a core has counted since it began
abbrev pub settle_in : CoreEvent → ℕ
settle_in (Settle count) = 1
settle_in other = 0

abbrev pub settles_of : CoreData → ℕ
settles_of d = in_all settle_in d.history

-- ---- what an editor did
-- of events and of the batches that they accepted, all with the newest first: the batches, and a mark for each settle
abbrev pub done_in : List CoreEvent → List (List Edit) → List LogEntry
done_in [] batches = []
done_in (Accept ∷ events) [] = done_in events []
done_in (Accept ∷ events) (batch ∷ batches) = Accepted batch ∷ done_in events batches
done_in (Settle count ∷ events) batches = Mark ∷ done_in events batches
done_in (other ∷ events) batches = done_in events batches

-- what the editor of a core did, the newest first
unfoldable pub done_to : CoreData → List LogEntry
done_to d = done_in d.history (reverse (batches_of d.log))

-- the list that a core tells: the opening scenario, and what its editor did, in order
unfoldable pub told_of : CoreData → List LogEntry
told_of d = Opening d.log.opening ∷ reverse (done_to d)

-- ---- what such a list tells
-- the log that what was done makes of an opening scenario
abbrev pub log_by : ScenarioData → List LogEntry → Log
log_by opening [] = record { opening = opening; batches = [] }
log_by opening (Accepted batch ∷ done) = with_batch (log_by opening done) batch
log_by opening (Mark ∷ done) = with_mark (log_by opening done)
log_by opening (Opening other ∷ done) = log_by opening done

-- this log
pub record TellsLog (list : List LogEntry) (log : Log) : Type 0 where
  pub done : List LogEntry
  pub list_is : list ≡ Opening log.opening ∷ reverse done
  pub log_is : log ≡ log_by log.opening done

-- so many settles
abbrev pub marks_in : List LogEntry → ℕ
marks_in [] = 0
marks_in (Mark ∷ entries) = 1 + marks_in entries
marks_in (Accepted batch ∷ entries) = marks_in entries
marks_in (Opening scenario ∷ entries) = marks_in entries
