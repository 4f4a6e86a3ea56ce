-- What holds of the data of every network.
use Rattle.std.specs.Prelude.{◌≡◌, ◌≢◌, ℕ, ◌*◌, ◌<◌, ◌≤◌, List, [], length, Ok, Some}
use Rattle.ltm_network.specs.Names.{AreApart}
use Rattle.ltm_network.specs.Network.{NetworkData, tail_of, head_of, empty_network, link_names, link_name, node_name, out_links, in_links, find_link, find_node, with_link}
use Rattle.ltm_units.specs.Bounds.{most_links}

pub record IsNetwork (d : NetworkData) : Type 0 where
  pub tail_is_node : (link : ℕ) → link < length d.links → tail_of d link < length d.nodes
  pub head_is_node : (link : ℕ) → link < length d.links → head_of d link < length d.nodes
  pub no_loop : (link : ℕ) → link < length d.links → tail_of d link ≢ head_of d link
  pub few_out : (node : ℕ) → length (out_links d node) ≤ 4
  pub few_in : (node : ℕ) → length (in_links d node) ≤ 4
  pub nodes_apart : AreApart d.nodes
  pub links_apart : AreApart (link_names d)
  pub few_links : length d.links ≤ d.most_links
  pub most_is_small : d.most_links ≤ most_links
  pub few_nodes : length d.nodes ≤ 2 * length d.links

-- a network without links is one, and a network with a link that it takes is one
pub record NetworksStay : Type 0 where
  pub empty : (most : ℕ) → most ≤ most_links → IsNetwork (empty_network most)
  pub more : (d next : NetworkData) (name tail head : List ℕ) → IsNetwork d → with_link d name tail head ≡ Ok next → IsNetwork next

-- a link and a node are found by their own names, and what is found has the name
pub record NamesAreFound : Type 0 where
  pub link_found : (d : NetworkData) (link : ℕ) → IsNetwork d → link < length d.links → find_link d (link_name d link) ≡ Some link
  pub link_named : (d : NetworkData) (name : List ℕ) (link : ℕ) → find_link d name ≡ Some link → (link < length d.links) × (link_name d link ≡ name)
  pub node_found : (d : NetworkData) (node : ℕ) → IsNetwork d → node < length d.nodes → find_node d (node_name d node) ≡ Some node
  pub node_named : (d : NetworkData) (name : List ℕ) (node : ℕ) → find_node d name ≡ Some node → (node < length d.nodes) × (node_name d node ≡ name)
