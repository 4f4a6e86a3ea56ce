-- What holds of the data of every scenario.
use Rattle.std.specs.Prelude.{◌≡◌, ℕ, ◌<◌, ◌≤◌, ◌==◌, false, length, All, Some, IsOk}
use Rattle.ltm_network.specs.Network.{out_links}
use Rattle.ltm_network.specs.IsNetwork.{IsNetwork}
use Rattle.ltm_diagram.specs.Limits.{limits_of}
use Rattle.ltm_limits.specs.Limits.{AreWhole}
use Rattle.ltm_demand.specs.declared.row.DemandRow.{DemandRow}
use Rattle.ltm_demand.specs.Kept.{AreDemandRows}
use Rattle.ltm_splits.specs.Rows.{SplitRow, HaveWeights}
use Rattle.ltm_scenario.specs.Setup.{IsSetup}
use Rattle.ltm_scenario.specs.Data.{ScenarioData}
use Rattle.ltm_scenario.specs.Reads.{destination_node, destination_of, has_no_out_link}

-- a demand row starts at a node with an out-link, and does not end where it starts
pub record IsDemandOf (s : ScenarioData) (row : DemandRow) : Type 0 where
  pub origin_is_node : row.origin.0 < length s.network.nodes
  pub origin_has_out_link : has_no_out_link s row.origin.0 ≡ false
  pub destination_is_one : row.destination < length s.destinations
  pub ends_differ : (row.origin.0 == destination_node s row.destination) ≡ false

-- a split row has a weight for each out-link of its node, and does not stand at its own destination
pub record IsSplitOf (s : ScenarioData) (row : SplitRow) : Type 0 where
  pub node_is_node : row.0.node.0 < length s.network.nodes
  pub destination_is_one : row.0.destination < length s.destinations
  pub ends_differ : (row.0.node.0 == destination_node s row.0.destination) ≡ false
  pub weight_for_each : length row.1 ≡ length (out_links s.network row.0.node.0)

pub record IsScenario (s : ScenarioData) : Type 0 where
  pub setup : IsSetup s.setup
  pub network : IsNetwork s.network
  pub most_links : s.network.most_links ≡ s.setup.most_links
  pub diagram_for_each : length s.diagrams ≡ length s.network.links
  -- each diagram sets limits at the step
  pub limits : All (λ diagram. IsOk (limits_of diagram s.setup.step.0 s.setup.carry)) s.diagrams
  -- an entry and an exit limit for each link and slot
  pub entry : AreWhole s.entry (length s.network.links) s.setup.slots
  pub exit : AreWhole s.exit (length s.network.links) s.setup.slots
  pub few_destinations : length s.destinations ≤ s.setup.most_destinations
  pub destinations_are_nodes : All (λ node. node < length s.network.nodes) s.destinations
  pub destinations_apart : (destination : ℕ) → destination < length s.destinations → destination_of s.destinations (destination_node s destination) ≡ Some destination
  pub demand : All (IsDemandOf s) s.demand
  pub demand_rows : AreDemandRows s.setup.slots s.setup.most_demand_rows s.demand
  pub splits : All (IsSplitOf s) s.splits
  pub weights : HaveWeights s.splits
