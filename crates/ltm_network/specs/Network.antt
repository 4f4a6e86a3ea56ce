-- A network as contracts see it: its nodes by name, and its links with their names and the numbers of their ends.
use Rattle.std.specs.Prelude.{ℕ, ◌==◌, Bool, nat_le, is_some, List, [], ◌∷◌, ◌++◌, length, map, take, slice_index, slice_index_or, Option, Result, Ok}
use Rattle.std.specs.Option.{option_map_or}
use Rattle.ltm_units.specs.Results.{refuse, ◌>>>◌}
use Rattle.ltm_network.specs.declared.network.NetworkFault.{NetworkFault}
use Rattle.ltm_network.specs.declared.network.NetworkFault.TheVariants.{TwiceNamed, SelfLoop, TooManyLinks, TooManyOut, TooManyIn}
use Rattle.ltm_network.specs.Names.{same, place_of, with_name, number_of}
use Rattle.ltm_network.specs.Numbers.{numbers_of}

-- a link leads from its tail to its head, two nodes by number
pub record Link : Type 0 where
  pub name : List ℕ
  pub tail : ℕ
  pub head : ℕ

-- the most links that it takes, names of nodes in order of first being named, and links in order of adding
pub record NetworkData : Type 0 where
  pub most_links : ℕ
  pub nodes : List (List ℕ)
  pub links : List Link

-- a network without links, which takes at most so many
abbrev pub empty_network : ℕ → NetworkData
empty_network most = record { most_links = most; nodes = []; links = [] }

abbrev pub no_link : Link
no_link = record { name = []; tail = 0; head = 0 }

abbrev pub tail_of : NetworkData → ℕ → ℕ
tail_of d link = (slice_index_or d.links link no_link).tail

abbrev pub head_of : NetworkData → ℕ → ℕ
head_of d link = (slice_index_or d.links link no_link).head

abbrev pub link_name : NetworkData → ℕ → List ℕ
link_name d link = (slice_index_or d.links link no_link).name

abbrev pub node_name : NetworkData → ℕ → List ℕ
node_name d node = slice_index_or d.nodes node []

abbrev pub link_names : NetworkData → List (List ℕ)
link_names d = map (λ link. link.name) d.links

-- the number of the link, and of the node, of that name
abbrev pub find_link : NetworkData → List ℕ → Option ℕ
find_link d name = place_of (link_names d) name

abbrev pub find_node : NetworkData → List ℕ → Option ℕ
find_node d name = place_of d.nodes name

abbrev pub leaves : ℕ → Link → Bool
leaves node link = link.tail == node

abbrev pub enters : ℕ → Link → Bool
enters node link = link.head == node

-- the numbers of the links whose tail is the node, in order
abbrev pub out_links : NetworkData → ℕ → List ℕ
out_links d node = numbers_of (leaves node) 0 d.links

-- the numbers of the links whose head is the node, in order
abbrev pub in_links : NetworkData → ℕ → List ℕ
in_links d node = numbers_of (enters node) 0 d.links

-- the link at a place among those that leave, and among those that enter, a node
abbrev pub out_link : NetworkData → ℕ → ℕ → ℕ
out_link d node place = slice_index (out_links d node) place

abbrev pub in_link : NetworkData → ℕ → ℕ → ℕ
in_link d node place = slice_index (in_links d node) place

-- the place of a link among those that leave its tail: as many earlier links leave it
abbrev pub out_place : NetworkData → ℕ → ℕ
out_place d link = length (numbers_of (leaves (tail_of d link)) 0 (take link d.links))

-- the place of a link among those that enter its head
abbrev pub in_place : NetworkData → ℕ → ℕ
in_place d link = length (numbers_of (enters (head_of d link)) 0 (take link d.links))

-- how many links leave, and enter, the node of that name; 0 where there is none
abbrev pub out_degree : NetworkData → List ℕ → ℕ
out_degree d name = option_map_or (λ node. length (out_links d node)) (find_node d name) 0

abbrev pub in_degree : NetworkData → List ℕ → ℕ
in_degree d name = option_map_or (λ node. length (in_links d node)) (find_node d name) 0

-- whether the network takes a link of that name between these nodes
unfoldable pub checked : NetworkData → List ℕ → List ℕ → List ℕ → Result (Unit {0}) NetworkFault
checked d name tail head =
    refuse (is_some (find_link d name)) TwiceNamed
    >>> refuse (same tail head) SelfLoop
    >>> refuse (nat_le d.most_links (length d.links)) TooManyLinks
    >>> refuse (nat_le 4 (out_degree d tail)) TooManyOut
    >>> refuse (nat_le 4 (in_degree d head)) TooManyIn

-- the network with that link last, and its tail and then its head where they are new
abbrev pub network_linked : NetworkData → List ℕ → List ℕ → List ℕ → NetworkData
network_linked d name tail head = record {
  most_links = d.most_links;
  nodes = with_name (with_name d.nodes tail) head;
  links = d.links ++ record { name = name; tail = number_of d.nodes tail; head = number_of (with_name d.nodes tail) head } ∷ [];
}

unfoldable pub with_link : NetworkData → List ℕ → List ℕ → List ℕ → Result NetworkData NetworkFault
with_link d name tail head = checked d name tail head >>> Ok (network_linked d name tail head)
