-- What routes run over: the links of a scenario, each with its ends and its free-flow time.
use Rattle.std.specs.Prelude.{ℕ, ◌≢◌, ◌<◌, ◌≤◌, length, slice_get}
use Rattle.std.specs.Option.{option_map_or}
use Rattle.ltm_network.specs.Network.{tail_of, head_of}
use Rattle.ltm_diagram.specs.Limits.{free_flow_time}
use Rattle.ltm_scenario.specs.Data.{ScenarioData}
use Rattle.ltm_units.specs.Bounds.{longest_time, most_nodes}

-- how many nodes and links there are; where each link leads from and to, and the milliseconds that it takes at free speed
pub record Roads : Type 0 where
  pub nodes : ℕ
  pub links : ℕ
  pub tail : ℕ → ℕ
  pub head : ℕ → ℕ
  pub free_time : ℕ → ℕ

abbrev pub roads_of : ScenarioData → Roads
roads_of s = record {
  nodes = length s.network.nodes;
  links = length s.network.links;
  tail = tail_of s.network;
  head = head_of s.network;
  free_time = λ link. option_map_or free_flow_time (slice_get s.diagrams link) 0;
}

-- what holds of the roads of every scenario: a link takes at least a millisecond and at most 1000 hours
pub record AreRoads (r : Roads) : Type 0 where
  pub tails : (link : ℕ) → link < r.links → r.tail link < r.nodes
  pub heads : (link : ℕ) → link < r.links → r.head link < r.nodes
  pub apart : (link : ℕ) → link < r.links → r.tail link ≢ r.head link
  pub some_time : (link : ℕ) → link < r.links → 1 ≤ r.free_time link
  pub most_time : (link : ℕ) → link < r.links → r.free_time link ≤ longest_time
  pub few_nodes : r.nodes ≤ most_nodes
