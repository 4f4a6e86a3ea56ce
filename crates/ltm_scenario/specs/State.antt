-- A scenario with the room that it keeps.
use Rattle.std.specs.Prelude.{ℕ, ◌≤◌, List}
use Rattle.ltm_demand.specs.Rows as demand
use Rattle.ltm_demand.specs.Rows.{DemandState, OriginRoom}
use Rattle.ltm_scenario.specs.declared.side.Side.{Side}
use Rattle.ltm_scenario.specs.declared.side.Side.TheVariants.{Entry, Exit}
use Rattle.ltm_scenario.specs.Data.{ScenarioData, demand_of}

-- the data, and beside them what can be written again without memory: further demand rows, entry and exit limits
pub record ScenarioState : Type 0 where
  pub scenario : ScenarioData
  pub demand_room : List OriginRoom
  pub entry_places : ℕ
  pub exit_places : ℕ

-- the demand as its crate sees it, with its room
abbrev pub demand_state : ScenarioState → DemandState
demand_state s = record { demand = demand_of s.scenario; tabled = s.scenario.setup.history; room = s.demand_room }

-- how many entry limits, or exit limits, can be written again without memory
abbrev pub places_at : ScenarioState → Side → ℕ
places_at s Entry = s.entry_places
places_at s Exit = s.exit_places

-- the room is no less than it was
pub record KeepsRoom (old new : ScenarioState) : Type 0 where
  pub demand : demand.KeepsRoom (demand_state old) (demand_state new)
  pub entry : old.entry_places ≤ new.entry_places
  pub exit : old.exit_places ≤ new.exit_places
