-- Where lists lead.
use Rattle.std.specs.Prelude.{◌≡◌, List, [], ◌∷◌, ◌++◌, Ok}
use Rattle.ltm_scenario.specs.declared.edit.Edit.{Edit}
use Rattle.ltm_scenario.specs.Data.{ScenarioData}
use Rattle.ltm_scenario.specs.Edits.{edited_all}
use Rattle.ltm_core.specs.declared.entry.LogEntry.{LogEntry}
use Rattle.ltm_core.specs.Log.{Log, HoldsAccepted, batches_of, scenario_now}
use Rattle.ltm_board.specs.Lists.{list_of, entries_of_batches, LeadsTo}

pub record ListsLead : Type 0 where
  -- an opening scenario alone leads to itself
  pub opening : (s : ScenarioData) → LeadsTo (list_of s []) s
  -- one more batch leads to what it makes of the scenario
  pub further : (list : List LogEntry) (s next : ScenarioData) (batch : List Edit) → LeadsTo list s → edited_all s batch ≡ Ok next →
      LeadsTo (list ++ entries_of_batches (batch ∷ [])) next
  -- the opening scenario and the batches of a log lead to its scenario
  pub log : (log : Log) → HoldsAccepted log → LeadsTo (list_of log.opening (batches_of log)) (scenario_now log)
  -- a list leads to one scenario
  pub one : (list : List LogEntry) (s t : ScenarioData) → LeadsTo list s → LeadsTo list t → s ≡ t
