-- A scenario with one link more.
use Rattle.std.proofs.Common.{◌≡◌, ℕ, ◌+◌, ◌<◌, ◌≤◌, ◌==◌, List, [], ◌∷◌, ◌++◌, length, map, Bool, true, false, if◌then◌else◌, is_some, nat_le, Ok, Err, Result, IsOk, refl, sym, ap, subst, ◌∙◌, arith, length-append}
use Rattle.std.proofs.lemmas.Bool.Decides.{nat_tests}
use Rattle.std.proofs.lemmas.List.Elements.{All-push}
use Rattle.ltm_units.specs.declared.places.LinkId.{LinkId}
use Rattle.ltm_units.specs.Results.{◌>>>◌}
use Rattle.ltm_units.proofs.Results.{both_ok, not_refused}
use Rattle.ltm_limits.specs.Limits.{AreWhole, with_limits_of_link}
use Rattle.ltm_limits.proofs.Stays.{limits_whole}
use Rattle.ltm_diagram.specs.declared.diagram.Diagram.{Diagram}
use Rattle.ltm_diagram.specs.declared.diagram.Limits.{Limits}
use Rattle.ltm_diagram.specs.declared.diagram.DiagramFault.{DiagramFault}
use Rattle.ltm_diagram.specs.Limits.{limits_of}
use Rattle.ltm_network.specs.declared.network.NetworkFault.{NetworkFault}
use Rattle.ltm_network.specs.declared.network.NetworkFault.TheVariants.{TooManyLinks}
use Rattle.ltm_network.specs.Names.{place_of, with_name, number_of}
use Rattle.ltm_network.specs.Numbers.{numbers_of}
use Rattle.ltm_network.specs.Network as network
use Rattle.ltm_network.specs.Network.{NetworkData, Link, out_links, leaves, checked}
use Rattle.ltm_network.specs.IsNetwork.{NetworksStay}
use Rattle.ltm_demand.specs.declared.row.DemandRow.{DemandRow}
use Rattle.ltm_splits.specs.Rows.{SplitRow}
use Rattle.ltm_scenario.specs.declared.faults.LinkFault.TheVariants.{Network, Diagram as BadDiagram}
use Rattle.ltm_scenario.specs.Data.{ScenarioData}
use Rattle.ltm_scenario.specs.Build.{with_link, with_link_on, of_network, of_diagram, ◌>>=◌, HasNoSplitAt}
use Rattle.ltm_scenario.specs.IsScenario.{IsScenario, IsDemandOf, IsSplitOf}

-- what the network makes of a link that it takes
pub network_linked : (d : NetworkData) (name tail head : List ℕ) → checked d name tail head ≡ Ok tt → network.with_link d name tail head ≡ Ok (network.network_linked d name tail head)
unfolding network.with_link
network_linked d name tail head is = ap (λ r. r >>> Ok (network.network_linked d name tail head)) is

network_refused : (d : NetworkData) (name tail head : List ℕ) (fault : NetworkFault) → checked d name tail head ≡ Err fault → network.with_link d name tail head ≡ Err fault
unfolding network.with_link
network_refused d name tail head fault is = ap (λ r. r >>> Ok (network.network_linked d name tail head)) is

pub refused_by_network : (s : ScenarioData) (name tail head : List ℕ) (diagram : Diagram) (fault : NetworkFault) → checked s.network name tail head ≡ Err fault → with_link s name tail head diagram ≡ Err (Network fault)
unfolding with_link
refused_by_network s name tail head diagram fault is =
    ap (λ r. of_network r >>= λ next. of_diagram (limits_of diagram s.setup.step.0 s.setup.carry) >>= λ _. Ok (with_link_on s next diagram)) (network_refused s.network name tail head fault is)

pub refused_by_diagram : (s : ScenarioData) (name tail head : List ℕ) (diagram : Diagram) (fault : DiagramFault) → checked s.network name tail head ≡ Ok tt → limits_of diagram s.setup.step.0 s.setup.carry ≡ Err fault → with_link s name tail head diagram ≡ Err (BadDiagram fault)
unfolding with_link
refused_by_diagram s name tail head diagram fault taken is =
    ap (λ r. of_network r >>= λ next. of_diagram (limits_of diagram s.setup.step.0 s.setup.carry) >>= λ _. Ok (with_link_on s next diagram)) (network_linked s.network name tail head taken)
    ∙ ap (λ r. of_diagram r >>= λ _. Ok (with_link_on s (network.network_linked s.network name tail head) diagram)) is

pub is_linked : (s : ScenarioData) (name tail head : List ℕ) (diagram : Diagram) (limits : Limits) → checked s.network name tail head ≡ Ok tt → limits_of diagram s.setup.step.0 s.setup.carry ≡ Ok limits → with_link s name tail head diagram ≡ Ok (with_link_on s (network.network_linked s.network name tail head) diagram)
unfolding with_link
is_linked s name tail head diagram limits taken is =
    ap (λ r. of_network r >>= λ next. of_diagram (limits_of diagram s.setup.step.0 s.setup.carry) >>= λ _. Ok (with_link_on s next diagram)) (network_linked s.network name tail head taken)
    ∙ ap (λ r. of_diagram r >>= λ _. Ok (with_link_on s (network.network_linked s.network name tail head) diagram)) is

-- ---- nodes and out-links grow
named_longer : (names : List (List ℕ)) (name : List ℕ) → length names ≤ length (with_name names name)
named_longer names name =
    elim (is_some (place_of names name)) as (λ b. length names ≤ length (if b then names else names ++ name ∷ [])) [
      | true ↦ omega arith
      | false ↦ omega (arith, length-append names (name ∷ []))
    ]

numbers_of-push : (test : Link → Bool) (first : ℕ) (xs : List Link) (x : Link) → length (numbers_of test first (xs ++ x ∷ [])) ≡ length (numbers_of test first xs) + (if test x then 1 else 0)
numbers_of-push test first [] x = elim (test x) as (λ b. length (if b then first ∷ [] else []) ≡ 0 + (if b then 1 else 0)) [ true ↦ omega arith | false ↦ refl ]
numbers_of-push test first (y ∷ ys) x =
    let more : length (numbers_of test (first + 1) (ys ++ x ∷ [])) ≡ length (numbers_of test (first + 1) ys) + (if test x then 1 else 0) = numbers_of-push test (first + 1) ys x in
    elim (test y) as (λ b. length (if b then first ∷ numbers_of test (first + 1) (ys ++ x ∷ []) else numbers_of test (first + 1) (ys ++ x ∷ [])) ≡ length (if b then first ∷ numbers_of test (first + 1) ys else numbers_of test (first + 1) ys) + (if test x then 1 else 0)) [
      | true ↦ omega (arith, more)
      | false ↦ more
    ]

-- as many as before, and one more where the new link starts at the node
out_links_grow : (d : NetworkData) (name tail head : List ℕ) (node : ℕ) → length (out_links (network.network_linked d name tail head) node) ≡ length (out_links d node) + (if number_of d.nodes tail == node then 1 else 0)
out_links_grow d name tail head node = numbers_of-push (leaves node) 0 d.links _

demand_stays : (s : ScenarioData) (name tail head : List ℕ) (diagram : Diagram) (row : DemandRow) → IsDemandOf s row → IsDemandOf (with_link_on s (network.network_linked s.network name tail head) diagram) row
demand_stays s name tail head diagram row is =
    let outs = length (out_links s.network row.origin.0) in
    let some : (outs == 0) ≡ false = is.origin_has_out_link in
    let more : length (out_links (network.network_linked s.network name tail head) row.origin.0) ≡ outs + (if number_of s.network.nodes tail == row.origin.0 then 1 else 0) = out_links_grow s.network name tail head row.origin.0 in
    let some_still : (length (out_links (network.network_linked s.network name tail head) row.origin.0) == 0) ≡ false = grind (arith, nat_tests) in
    record {
      origin_is_node = omega (arith, is.origin_is_node, named_longer s.network.nodes tail, named_longer (with_name s.network.nodes tail) head);
      origin_has_out_link = some_still;
      destination_is_one = is.destination_is_one;
      ends_differ = is.ends_differ;
    }

split_stays : (s : ScenarioData) (name tail head : List ℕ) (diagram : Diagram) (row : SplitRow) → (number_of s.network.nodes tail == row.0.node.0) ≡ false → IsSplitOf s row → IsSplitOf (with_link_on s (network.network_linked s.network name tail head) diagram) row
split_stays s name tail head diagram row apart is =
    let same : length (out_links (network.network_linked s.network name tail head) row.0.node.0) ≡ length (out_links s.network row.0.node.0) =
    out_links_grow s.network name tail head row.0.node.0 ∙ ap (λ b. length (out_links s.network row.0.node.0) + (if b then 1 else 0)) apart ∙ omega arith in
    record {
      node_is_node = omega (arith, is.node_is_node, named_longer s.network.nodes tail, named_longer (with_name s.network.nodes tail) head);
      destination_is_one = is.destination_is_one;
      ends_differ = is.ends_differ;
      weight_for_each = is.weight_for_each ∙ sym same;
    }

pub linked_is_scenario : (s : ScenarioData) (name tail head : List ℕ) (diagram : Diagram) → NetworksStay → IsScenario s → checked s.network name tail head ≡ Ok tt → HasNoSplitAt s (number_of s.network.nodes tail) → IsOk (limits_of diagram s.setup.step.0 s.setup.carry) → IsScenario (with_link_on s (network.network_linked s.network name tail head) diagram)
linked_is_scenario s name tail head diagram stay is taken free sets =
    let next : NetworkData = network.network_linked s.network name tail head in
    record {
      setup = is.setup;
      network = stay.more s.network next name tail head is.network (network_linked s.network name tail head taken);
      most_links = is.most_links;
      diagram_for_each = length-append s.diagrams (diagram ∷ []) ∙ ap (λ n. n + 1) is.diagram_for_each ∙ sym (length-append s.network.links _);
      limits = All-push (λ d. IsOk (limits_of d s.setup.step.0 s.setup.carry)) s.diagrams diagram is.limits sets;
      entry = subst (λ n. AreWhole (with_limits_of_link s.entry s.setup.slots) n s.setup.slots) (sym (length-append s.network.links _)) (limits_whole.more s.entry (length s.network.links) s.setup.slots is.entry);
      exit = subst (λ n. AreWhole (with_limits_of_link s.exit s.setup.slots) n s.setup.slots) (sym (length-append s.network.links _)) (limits_whole.more s.exit (length s.network.links) s.setup.slots is.exit);
      few_destinations = is.few_destinations;
      destinations_are_nodes = λ k d below. omega (arith, is.destinations_are_nodes k d below, named_longer s.network.nodes tail, named_longer (with_name s.network.nodes tail) head);
      destinations_apart = is.destinations_apart;
      demand = λ k d below. demand_stays s name tail head diagram _ (is.demand k d below);
      demand_rows = is.demand_rows;
      splits = λ k d below. split_stays s name tail head diagram _ (free k d below) (is.splits k d below);
      weights = is.weights;
    }

-- ---- a link that is taken finds room
few_links : (most n : ℕ) → nat_le most n ≡ false → n < most
few_links most n few = grind (arith, nat_tests)

pub room_for_link : (d : NetworkData) (name tail head : List ℕ) → checked d name tail head ≡ Ok tt → length d.links < d.most_links
unfolding checked
room_for_link d name tail head is =
    let few : nat_le d.most_links (length d.links) ≡ false = not_refused _ TooManyLinks (both_ok _ _ tt (both_ok _ _ tt (both_ok _ _ tt is).1).1).0 in
    few_links d.most_links (length d.links) few

pub is_network_linked : (d next : NetworkData) (name tail head : List ℕ) → checked d name tail head ≡ Ok tt → network.with_link d name tail head ≡ Ok next → next ≡ network.network_linked d name tail head
is_network_linked d next name tail head taken is =
    let both : ◌≡◌ {A = Result NetworkData NetworkFault} (Ok next) (Ok (network.network_linked d name tail head)) = sym is ∙ network_linked d name tail head taken in
    cc

-- a function of the numbers of links
pub map_numbers : (f : ℕ → ℕ) (links : List LinkId) → map (λ (link : LinkId). f link.0) links ≡ map f (map (λ (link : LinkId). link.0) links)
map_numbers f [] = refl
map_numbers f (link ∷ links) = ap (λ xs. f link.0 ∷ xs) (map_numbers f links)
