-- A table as the desk of a scenario's repair.
use Rattle.std.specs.Prelude.{ℕ, Bool}
use Rattle.ltm_scenario.specs.Data.{ScenarioData}
use Rattle.ltm_setting.specs.Setting.{setting_of}
use Rattle.ltm_frontier.specs.declared.frontier.Frontier.{Frontier}
use Rattle.ltm_index.specs.declared.read_index.ReadIndex.{ReadIndex}
use Rattle.ltm_repair.specs.Desk.{Desk}
use Rattle.ltm_working.specs.declared.table.Table.{Table}
use Rattle.ltm_working.specs.Desks.{desk_at, changed_at}
use Rattle.ltm_working.specs.Ready.{HasPairs, HasLists, IsReady}

-- its counts, kept inputs, active pairs and claims
abbrev pub desk_for : ScenarioData → Table → Desk
desk_for s t = desk_at (setting_of s) t

-- the cells in which a commit has changed some count since they were last cleared
abbrev pub changed_for : ScenarioData → Table → ℕ → ℕ → Bool
changed_for s t g k = changed_at (setting_of s) t g k

-- a table of the scenario's, with what holds of it at any time
abbrev pub IsReadyFor : ScenarioData → Table → Type 0
IsReadyFor s t = IsReady (setting_of s) t

-- the pairs of the scenario
abbrev pub HasPairsOf : ScenarioData → Frontier → Type 0
HasPairsOf s f = HasPairs (setting_of s) f

-- lists of the scenario's links and slots
abbrev pub HasListsOf : ScenarioData → ReadIndex → Type 0
HasListsOf s x = HasLists (setting_of s) x
