-- What the parts of a scenario say, and the room that they have.
use Rattle.std.specs.Prelude.{◌≡◌}
use Rattle.ltm_scenario.specs.declared.parts.Parts.{Parts}
use Rattle.ltm_scenario.specs.Data.{ScenarioData}
use Rattle.ltm_scenario.specs.State.{ScenarioState}
use Rattle.ltm_scenario.specs.IsScenario.{IsScenario}

abbrev pub scenario_in : Parts → ScenarioData
scenario_in t = record {
  setup = t.setup;
  network = t.network;
  diagrams = t.diagrams.diagrams;
  destinations = t.destinations;
  demand = t.demand.demand.rows;
  splits = t.splits.rows;
  entry = t.entry.limits;
  exit = t.exit.limits;
}

abbrev pub state_in : Parts → ScenarioState
state_in t = record { scenario = scenario_in t; demand_room = t.demand.room; entry_places = t.entry.places; exit_places = t.exit.places }

-- the parts agree on the pace, the horizon and the most rows, the demand has a table of each destination where the case keeps its
-- history, and what they say is a scenario
pub record AreParts (t : Parts) : Type 0 where
  pub scenario : IsScenario (scenario_in t)
  pub pace : t.diagrams.pace ≡ record { step = t.setup.step; carry = t.setup.carry }
  pub demand_slots : t.demand.demand.slots ≡ t.setup.slots
  pub splits_slots : t.splits.slots ≡ t.setup.slots
  pub entry_slots : t.entry.slots ≡ t.setup.slots
  pub exit_slots : t.exit.slots ≡ t.setup.slots
  pub demand_most : t.demand.demand.most_rows ≡ t.setup.most_demand_rows
  pub demand_tabled : t.demand.tabled ≡ t.setup.history
  pub splits_most : t.splits.most_rows ≡ t.setup.most_split_rows
