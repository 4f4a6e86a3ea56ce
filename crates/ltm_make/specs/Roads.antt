-- The network along the roads of a grid.
use Rattle.std.specs.Prelude.{ℕ, ◌≡◌, ◌<◌, List, [], ◌∷◌, length, slice_index_or, Some}
use Rattle.ltm_network.specs.Names.{place_of}
use Rattle.ltm_network.specs.Network.{NetworkData, link_name, tail_of, head_of}
use Rattle.ltm_units.specs.Bounds.{default_links}
use Rattle.ltm_make.specs.declared.grid.Road.{Road}
use Rattle.ltm_make.specs.Names.{name_of_node, name_of_link}
use Rattle.ltm_make.specs.Links.{with_road_link}

abbrev pub no_road : Road
no_road = record { from = 0; to = 0 }

abbrev pub road_at : List Road → ℕ → Road
road_at roads i = slice_index_or roads i no_road

-- a network with links along some roads more, one after another
abbrev pub network_along : NetworkData → List Road → NetworkData
network_along d [] = d
network_along d (road ∷ roads) = network_along (with_road_link d road) roads

-- the links of a network lead along roads, in order, between nodes of their names; it takes as many links as one that does
-- not say
pub record IsAlong (d : NetworkData) (roads : List Road) : Type 0 where
  pub takes : d.most_links ≡ default_links
  pub long : length d.links ≡ length roads
  pub names : (i : ℕ) → i < length roads → link_name d i ≡ name_of_link i
  pub tails : (i : ℕ) → i < length roads → place_of d.nodes (name_of_node (road_at roads i).from) ≡ Some (tail_of d i)
  pub heads : (i : ℕ) → i < length roads → place_of d.nodes (name_of_node (road_at roads i).to) ≡ Some (head_of d i)
