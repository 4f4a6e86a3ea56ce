-- What the rows of route splits are, and by what they are read back.
use Rattle.std.proofs.Common.{ℕ, ◌≡◌, ◌≤◌, ◌<◌, ◌==◌, ◌&&◌, not, Bool, true, false, List, [], ◌∷◌, length, map, sum, refl, sym, subst, arith}
use Rattle.std.specs.Prelude.{All, if◌then◌else◌}
use Rattle.std.proofs.lemmas.Bool.Decides.{nat_tests}
use Rattle.std.proofs.lemmas.List.{length-map}
use Rattle.std.proofs.lemmas.List.Elements.{All-cons, All-nil}
use Rattle.ltm_network.specs.Network.{NetworkData, node_name, link_name, out_links, tail_of}
use Rattle.ltm_network.specs.IsNetwork.{IsNetwork, NamesAreFound}
use Rattle.ltm_network.specs.Places.{LinksAtTheirPlaces}
use Rattle.ltm_splits.specs.Rows.{SplitRow, key_of}
use Rattle.ltm_scenario.specs.Data.{ScenarioData}
use Rattle.ltm_scenario.specs.Reads.{destination_node}
use Rattle.ltm_scenario.specs.IsScenario.{IsScenario}
use Rattle.ltm_scenario.specs.Edits.{weight_of}
use Rattle.ltm_routes.specs.Split.{RoutesData, begins_at, route_split, is_routed, rows_from, rows_to, routes_to, route_splits}
use Rattle.ltm_routes_command.specs.Lines.{sent_over, names_over}
use Rattle.ltm_routes_command.specs.File.{IsNamed}
use Rattle.ltm_routes_command.proofs.Cases.{all_below}
use Rattle.ltm_routes_command.proofs.Weights.{ones, weights_told}
use Rattle.ltm_routes_command.proofs.Apart.{Rising, AllLinks, bit, numbers_rise, sent_rise, sent_all, sent_few, sent_sum, are_some, weights_back, out_are_links, out_leave, named_leave}
use Rattle.ltm_routes_command.proofs.Step.{IsReadable, record_read}

-- a row of a node for a destination, with weight 1 for some out-links
pub record IsPlaced (s : ScenarioData) (row : SplitRow) : Type 0 where
  pub test : ℕ → Bool
  pub first : row.0.from ≡ 0
  pub node : row.0.node.0 < length s.network.nodes
  pub destination : row.0.destination < length s.destinations
  pub differ : (row.0.node.0 == destination_node s row.0.destination) ≡ false
  pub weights : row.1 ≡ map (bit test) (out_links s.network row.0.node.0)

left_holds : (a b : Bool) → (a && b) ≡ true → a ≡ true
left_holds true b is = refl
left_holds false b is = cc

turned : (b : Bool) → not b ≡ true → b ≡ false
turned true is = cc
turned false is = refl

placed_from : (s : ScenarioData) (destination node : ℕ) (routes : RoutesData) → destination < length s.destinations → node < length s.network.nodes → All (IsPlaced s) (rows_from s destination routes node)
placed_from s destination node routes one low =
    elim (is_routed s destination routes node) as (λ b. is_routed s destination routes node ≡ b → All (IsPlaced s) (if b then (key_of node destination 0, route_split s routes node) ∷ [] else [])) [
      | true ↦ λ is. All-cons (IsPlaced s) (key_of node destination 0, route_split s routes node) [] (record {
        test = begins_at routes;
        first = refl;
        node = low;
        destination = one;
        differ = turned (node == destination_node s destination) (left_holds _ _ is);
        weights = refl;
      }) (All-nil (IsPlaced s))
      | false ↦ λ is. All-nil (IsPlaced s)
    ] refl

pub all_placed : (s : ScenarioData) (all : List RoutesData) → All (IsPlaced s) (route_splits s all)
all_placed s all =
    all_below (IsPlaced s) (length s.destinations) (λ destination. rows_to s destination (routes_to all destination)) (λ destination one.
    all_below (IsPlaced s) (length s.network.nodes) (rows_from s destination (routes_to all destination)) (λ node low. placed_from s destination node (routes_to all destination) one low))

some_of : (n : ℕ) → (n == 0) ≡ false → 1 ≤ n
some_of n is = grind (arith, nat_tests)

-- what such a row is read back by
pub readable : (s : ScenarioData) (row : SplitRow) → IsScenario s → NamesAreFound → LinksAtTheirPlaces → IsPlaced s row → IsNamed s.network s.destinations row
    → IsReadable s.network s.destinations s.setup.slots row
readable s row scenario found places placed named =
    let d : NetworkData = s.network in
    let node : ℕ = row.0.node.0 in
    let end : ℕ = destination_node s row.0.destination in
    let outs : List ℕ = out_links d node in
    let test : ℕ → Bool = placed.test in
    let network : IsNetwork d = scenario.network in
    let links : AllLinks d outs = out_are_links d node places in
    let rising : Rising 0 outs = numbers_rise _ 0 d.links in
    let sent : List ℕ = sent_over outs row.1 in
    let sent_links : AllLinks d sent = sent_all (λ link. link < length d.links) outs row.1 links in
    let few : length sent ≤ 4 = (let a = sent_few outs row.1 in let b = network.few_out node in omega arith) in
    let names : length (names_over d row) ≡ length sent = length-map sent (link_name d) in
    let some : (sum row.1 == 0) ≡ false → 1 ≤ length sent = λ is.
    (let a : length sent ≡ sum row.1 = subst (λ w. length (sent_over outs w) ≡ sum w) (sym placed.weights) (sent_sum test outs) in let b = some_of (sum row.1) is in omega arith) in
    let inside : end < length d.nodes = scenario.destinations_are_nodes row.0.destination 0 placed.destination in
    let slots : 1 ≤ s.setup.slots = scenario.setup.slots_least in
    record {
      first = placed.first;
      slot = grind (arith, nat_tests, slots);
      is_record = λ is. record_read (node_name d node) (node_name d end) (names_over d row) named.node named.destination
          (weights_told (names_over d row) named.links (let a = some is in omega arith) (omega arith))
          (are_some d 0 sent found network (sent_rise 0 outs row.1 rising) sent_links (some is) few);
      node_found = found.node_found d node network placed.node;
      end_found = found.node_found d end network inside;
      end_placed = scenario.destinations_apart row.0.destination placed.destination;
      differ = placed.differ;
      leave = named_leave d node sent found network sent_links (sent_all (λ link. tail_of d link ≡ node) outs row.1 (out_leave d node places));
      weights = subst (λ w. map (λ link. weight_of (ones (map (link_name d) (sent_over outs w))) (link_name d link)) outs ≡ w) (sym placed.weights) (weights_back d test 0 outs found network rising links);
    }

pub all_readable : (s : ScenarioData) (all : List RoutesData) → IsScenario s → NamesAreFound → LinksAtTheirPlaces → All (IsNamed s.network s.destinations) (route_splits s all)
    → All (IsReadable s.network s.destinations s.setup.slots) (route_splits s all)
all_readable s all scenario found places named = λ k d low. readable s _ scenario found places (all_placed s all k d low) (named k d low)
