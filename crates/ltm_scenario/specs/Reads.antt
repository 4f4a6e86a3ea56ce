-- What is asked of the data of a scenario.
use Rattle.std.specs.Prelude.{ℕ, ◌==◌, Bool, Option, List, length, slice_index}
use Rattle.std.specs.List.{position_from, list_any}
use Rattle.ltm_network.specs.Network.{out_links, node_name}
use Rattle.ltm_splits.specs.Rows.{SplitRow, is_of}
use Rattle.ltm_scenario.specs.Data.{ScenarioData}

-- the node of a destination
abbrev pub destination_node : ScenarioData → ℕ → ℕ
destination_node s destination = slice_index s.destinations destination

-- which destination a node is, if it is one
abbrev pub destination_of : List ℕ → ℕ → Option ℕ
destination_of destinations node = position_from (λ d. d == node) 0 destinations

-- no traffic starts at a node without out-links
abbrev pub has_no_out_link : ScenarioData → ℕ → Bool
has_no_out_link s node = length (out_links s.network node) == 0

-- the node and the destination have a split row
abbrev pub has_split : List SplitRow → ℕ → ℕ → Bool
has_split rows node destination = list_any (is_of node destination) rows

-- the name of a destination's node
abbrev pub destination_name : ScenarioData → ℕ → List ℕ
destination_name s destination = node_name s.network (destination_node s destination)
