-- Each link stands at one place among those that leave its tail, and at one among those that enter its head.
use Rattle.std.specs.Prelude.{◌≡◌, ℕ, ◌<◌, ◌≤◌, [], length}
use Rattle.ltm_network.specs.Network.{NetworkData, tail_of, head_of, out_links, in_links, out_link, in_link, out_place, in_place}
use Rattle.ltm_network.specs.IsNetwork.{IsNetwork}

pub record HasPlaces (d : NetworkData) : Type 0 where
  pub out_place_below : (link : ℕ) → link < length d.links → out_place d link < length (out_links d (tail_of d link))
  pub out_link_at : (link : ℕ) → link < length d.links → out_link d (tail_of d link) (out_place d link) ≡ link
  pub out_link_is_link : (node place : ℕ) → place < length (out_links d node) → out_link d node place < length d.links
  pub out_link_starts : (node place : ℕ) → place < length (out_links d node) → tail_of d (out_link d node place) ≡ node
  pub out_place_of : (node place : ℕ) → place < length (out_links d node) → out_place d (out_link d node place) ≡ place
  pub out_in_order : (node earlier later : ℕ) → earlier < later → later < length (out_links d node) → out_link d node earlier < out_link d node later
  pub in_place_below : (link : ℕ) → link < length d.links → in_place d link < length (in_links d (head_of d link))
  pub in_link_at : (link : ℕ) → link < length d.links → in_link d (head_of d link) (in_place d link) ≡ link
  pub in_link_is_link : (node place : ℕ) → place < length (in_links d node) → in_link d node place < length d.links
  pub in_link_ends : (node place : ℕ) → place < length (in_links d node) → head_of d (in_link d node place) ≡ node
  pub in_place_of : (node place : ℕ) → place < length (in_links d node) → in_place d (in_link d node place) ≡ place
  pub in_in_order : (node earlier later : ℕ) → earlier < later → later < length (in_links d node) → in_link d node earlier < in_link d node later
  pub none_leaves : IsNetwork d → (node : ℕ) → length d.nodes ≤ node → out_links d node ≡ []
  pub none_enters : IsNetwork d → (node : ℕ) → length d.nodes ≤ node → in_links d node ≡ []

abbrev pub LinksAtTheirPlaces : Type 0
LinksAtTheirPlaces = (d : NetworkData) → HasPlaces d
