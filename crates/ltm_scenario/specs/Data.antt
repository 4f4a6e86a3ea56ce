-- The data of a scenario: what a case says, and what edits change.
use Rattle.std.specs.Prelude.{ℕ, List, []}
use Rattle.ltm_scenario.specs.declared.setup.Setup.{Setup}
use Rattle.ltm_network.specs.Network.{NetworkData, empty_network}
use Rattle.ltm_diagram.specs.declared.diagram.Diagram.{Diagram}
use Rattle.ltm_demand.specs.declared.row.DemandRow.{DemandRow}
use Rattle.ltm_demand.specs.Rows.{DemandData}
use Rattle.ltm_splits.specs.Rows.{SplitRow, SplitsData}

pub record ScenarioData : Type 0 where
  -- the step, the slots of the horizon, the most that leaves an origin in a slot, how large the case may be, how nodes move
  pub setup : Setup
  -- nodes by name in order of first being named; links in order of adding, each with its name and its ends
  pub network : NetworkData
  -- the diagram of each link
  pub diagrams : List Diagram
  -- the nodes that are destinations, in order of becoming one
  pub destinations : List ℕ
  -- rows of demand, in the order of their keys
  pub demand : List DemandRow
  -- split rows, in the order of their keys
  pub splits : List SplitRow
  -- for each link its entry limit at each slot
  pub entry : List (List ℕ)
  -- for each link its exit limit at each slot
  pub exit : List (List ℕ)

-- the demand as its crate sees it
abbrev pub demand_of : ScenarioData → DemandData
demand_of s = record { slots = s.setup.slots; most_rows = s.setup.most_demand_rows; rows = s.demand }

-- the splits as their crate sees them
abbrev pub splits_of : ScenarioData → SplitsData
splits_of s = record { slots = s.setup.slots; most_rows = s.setup.most_split_rows; rows = s.splits }

-- a scenario without links
abbrev pub empty_scenario : Setup → ScenarioData
empty_scenario setup = record {
  setup = setup;
  network = empty_network setup.most_links;
  diagrams = [];
  destinations = [];
  demand = [];
  splits = [];
  entry = [];
  exit = [];
}
