-- How a network lies in its tables, and what they keep.
use Rattle.std.specs.Prelude.{◌≡◌, ℕ, ◌<◌, List, [], ◌∷◌, length, slice_index_or}
use Rattle.ltm_network.specs.declared.ends.Ends.{Ends}
use Rattle.ltm_network.specs.Nodes.{NodeTables}
use Rattle.ltm_network.specs.Network.{Link, NetworkData, out_links, in_links}
use Rattle.ltm_network.specs.IsNetwork.{IsNetwork}

-- each name with its ends
abbrev pub links_of : List (List ℕ) → List Ends → List Link
links_of [] ends = []
links_of (name ∷ names) [] = []
links_of (name ∷ names) (e ∷ ends) = record { name = name; tail = e.tail; head = e.head } ∷ links_of names ends

abbrev pub network_of : ℕ → List (List ℕ) → List (List ℕ) → List Ends → NetworkData
network_of most nodes names ends = record { most_links = most; nodes = nodes; links = links_of names ends }

pub record AreTables (most : ℕ) (nodes : NodeTables) (names : List (List ℕ)) (ends : List Ends) : Type 0 where
  pub outs_long : length nodes.outs ≡ length nodes.names
  pub ins_long : length nodes.ins ≡ length nodes.names
  pub names_long : length names ≡ length ends
  pub outs_are : (node : ℕ) → node < length nodes.names → slice_index_or nodes.outs node [] ≡ out_links (network_of most nodes.names names ends) node
  pub ins_are : (node : ℕ) → node < length nodes.names → slice_index_or nodes.ins node [] ≡ in_links (network_of most nodes.names names ends) node
  pub network : IsNetwork (network_of most nodes.names names ends)
