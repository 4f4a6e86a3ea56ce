-- A network with one more link is a network.
use Rattle.std.proofs.Common.{◌≡◌, ◌≢◌, ℕ, ◌<◌, ◌≤◌, ◌==◌, Bool, true, false, List, [], ◌∷◌, ◌++◌, length, get_or, nat_le, is_some, unwrap_or, Option, Some, None, Result, Ok, Err, refl, sym, ap, subst, ◌∙◌, arith, length-append, inl, inr}
use Rattle.std.specs.Option.{option_map_or}
use Rattle.std.proofs.Math.ListN.{get_or-append}
use Rattle.std.proofs.Math.Seq.{get_or-append_seam}
use Rattle.std.proofs.lemmas.List.{map-append}
use Rattle.std.proofs.lemmas.Bool.{cases_lt, cases_eq}
use Rattle.std.proofs.lemmas.Bool.Decides.{nat_tests}
use Rattle.ltm_units.specs.Results.{◌>>>◌}
use Rattle.ltm_units.proofs.Results.{passed, not_refused}
use Rattle.ltm_network.specs.declared.network.NetworkFault.{NetworkFault}
use Rattle.ltm_network.specs.Names.{same, with_name, number_of, AreApart}
use Rattle.ltm_network.specs.Numbers.{numbers_of}
use Rattle.ltm_network.specs.Network.{Link, NetworkData, no_link, link_names, find_link, find_node, out_links, in_links, out_degree, in_degree, checked, network_linked, with_link}
use Rattle.ltm_network.specs.IsNetwork.{IsNetwork, NetworksStay}
use Rattle.ltm_network.proofs.Finding.{same_exact, same_itself}
use Rattle.ltm_network.proofs.Apart.{apart_named, apart_pushed, number_inside, named_at, named_kept, length-named, found_still, none_still}
use Rattle.ltm_network.proofs.Counted.{passes, fails, none_leaves, none_enters}

none_from : (o : Option ℕ) → is_some o ≡ false → o ≡ None
none_from (Some n) is = cc
none_from None is = refl

below_from : (m n : ℕ) → nat_le m n ≡ false → n < m
below_from m n is = grind (arith, nat_tests)

-- what a link that is taken met
pub record IsTaken (d : NetworkData) (name tail head : List ℕ) : Type 0 where
  pub new : find_link d name ≡ None
  pub apart : same tail head ≡ false
  pub few : length d.links < d.most_links
  pub out_room : out_degree d tail < 4
  pub in_room : in_degree d head < 4

pub taken : (d : NetworkData) (name tail head : List ℕ) → checked d name tail head ≡ Ok tt → IsTaken d name tail head
unfolding checked
taken d name tail head is =
    let new = passed _ _ _ tt is in
    let apart = passed _ _ _ tt new.1 in
    let few = passed _ _ _ tt apart.1 in
    let out_room = passed _ _ _ tt few.1 in
    let in_room = not_refused _ _ out_room.1 in
    record {
      new = none_from _ new.0;
      apart = apart.0;
      few = below_from _ _ few.0;
      out_room = below_from _ _ out_room.0;
      in_room = below_from _ _ in_room;
    }

yes_or_no : (b : Bool) → (b ≡ true → ⊥) → b ≡ false
yes_or_no true h = absurd (h refl)
yes_or_no false h = refl

same_turned : (a b : List ℕ) → same a b ≡ false → same b a ≡ false
same_turned a b apart = yes_or_no _ (λ is.
    let here : same a b ≡ true = subst (λ x. same a x ≡ true) (sym (same_exact b a is)) (same_itself a) in
    let bad : true ≡ false = sym here ∙ apart in cc)

out_room_by : (d : NetworkData) (name : List ℕ) (o : Option ℕ) → IsNetwork d → option_map_or (λ node. length (out_links d node)) o 0 < 4 → length (out_links d (unwrap_or o (length d.nodes))) < 4
out_room_by d name (Some u) net room = room
out_room_by d name None net room = omega (arith, ap length (none_leaves d net (length d.nodes) (omega arith)))

-- the tail has room
pub out_room_at : (d : NetworkData) (name : List ℕ) → IsNetwork d → out_degree d name < 4 → length (out_links d (number_of d.nodes name)) < 4
out_room_at d name net room = out_room_by d name (find_node d name) net room

in_room_by : (d : NetworkData) (tail head : List ℕ) (o : Option ℕ) → find_node d head ≡ o → IsNetwork d → same tail head ≡ false → option_map_or (λ node. length (in_links d node)) o 0 < 4 →
    length (in_links d (number_of (with_name d.nodes tail) head)) < 4
in_room_by d tail head (Some u) is net apart room =
    let at : number_of (with_name d.nodes tail) head ≡ u = ap (λ o. unwrap_or o (length (with_name d.nodes tail))) (found_still d.nodes tail head u is) in
    omega (arith, ap (λ n. length (in_links d n)) at)
in_room_by d tail head None is net apart room =
    let other : same head tail ≡ false = same_turned tail head apart in
    let at : number_of (with_name d.nodes tail) head ≡ length (with_name d.nodes tail) = ap (λ o. unwrap_or o (length (with_name d.nodes tail))) (none_still d.nodes tail head is other) in
    let past : length d.nodes ≤ number_of (with_name d.nodes tail) head = omega (arith, at, (length-named d.nodes tail).0) in
    omega (arith, ap length (none_enters d net (number_of (with_name d.nodes tail) head) past))

-- the head has room
pub in_room_at : (d : NetworkData) (tail head : List ℕ) → IsNetwork d → same tail head ≡ false → in_degree d head < 4 → length (in_links d (number_of (with_name d.nodes tail) head)) < 4
in_room_at d tail head net apart room = in_room_by d tail head (find_node d head) refl net apart room

-- the ends of a new link are two nodes
ends_apart : (nodes : List (List ℕ)) (tail head : List ℕ) → same tail head ≡ false → number_of nodes tail ≢ number_of (with_name nodes tail) head
ends_apart nodes tail head apart is =
    let inside : number_of nodes tail < length (with_name nodes tail) = number_inside nodes tail in
    let tail_here : get_or (with_name (with_name nodes tail) head) (number_of nodes tail) [] ≡ tail = named_kept (with_name nodes tail) head (number_of nodes tail) inside ∙ named_at nodes tail in
    let head_here : get_or (with_name (with_name nodes tail) head) (number_of nodes tail) [] ≡ head = ap (λ n. get_or (with_name (with_name nodes tail) head) n []) is ∙ named_at (with_name nodes tail) head in
    let one : tail ≡ head = sym tail_here ∙ head_here in
    let here : same tail head ≡ true = subst (λ x. same tail x ≡ true) one (same_itself tail) in
    let bad : true ≡ false = sym here ∙ apart in
    cc

-- a fact of each link, after one more that has it
each_more : (P : Link → Type 0) (links : List Link) (e : Link) → ((link : ℕ) → link < length links → P (get_or links link no_link)) → P e → (link : ℕ) → link < length (links ++ e ∷ []) → P (get_or (links ++ e ∷ []) link no_link)
each_more P links e each last link less =
    elim (cases_lt link (length links)) [
      | inl before ↦ subst P (sym (get_or-append links (e ∷ []) no_link link before)) (each link before)
      | inr past ↦
          let at : link ≡ length links = omega (arith, length-append links (e ∷ [])) in
          subst (λ n. P (get_or (links ++ e ∷ []) n no_link)) (sym at) (subst P (sym (get_or-append_seam links e [] no_link)) last)
    ]

-- at most four on a side, after one more where there was room
side_few : (node_of : Link → ℕ) (links : List Link) (e : Link) → length (numbers_of (λ l. node_of l == node_of e) 0 links) < 4 → ((node : ℕ) → length (numbers_of (λ l. node_of l == node) 0 links) ≤ 4) →
    (node : ℕ) → length (numbers_of (λ l. node_of l == node) 0 (links ++ e ∷ [])) ≤ 4
side_few node_of links e room few node =
    elim (cases_eq (node_of e) node) [
      | inl here ↦
          let test : (node_of e == node) ≡ true = grind (arith, nat_tests) in
          let more = passes (λ l. node_of l == node) links e (length links) test refl in
          let room_here : length (numbers_of (λ l. node_of l == node) 0 links) < 4 = omega (arith, room, ap (λ n. length (numbers_of (λ l. node_of l == n) 0 links)) here) in
          omega (arith, ap length more, length-append (numbers_of (λ l. node_of l == node) 0 links) (length links ∷ []), room_here)
      | inr other ↦
          let test : (node_of e == node) ≡ false = grind (arith, nat_tests) in
          omega (arith, ap length (fails (λ l. node_of l == node) links e test), few node)
    ]

-- the link that is added
abbrev pub new_link : NetworkData → List ℕ → List ℕ → List ℕ → Link
new_link d name tail head = record { name = name; tail = number_of d.nodes tail; head = number_of (with_name d.nodes tail) head }

pub linked_stays : (d : NetworkData) (name tail head : List ℕ) → IsNetwork d → IsTaken d name tail head → IsNetwork (network_linked d name tail head)
linked_stays d name tail head net met =
    let one = length-named d.nodes tail in
    let two = length-named (with_name d.nodes tail) head in
    let tail_in : number_of d.nodes tail < length (with_name d.nodes tail) = number_inside d.nodes tail in
    let head_in : number_of (with_name d.nodes tail) head < length (with_name (with_name d.nodes tail) head) = number_inside (with_name d.nodes tail) head in
    record {
      tail_is_node = each_more (λ l. l.tail < length (with_name (with_name d.nodes tail) head)) d.links (new_link d name tail head)
          (λ link less. omega (arith, net.tail_is_node link less, one.0, two.0)) (omega (arith, tail_in, two.0));
      head_is_node = each_more (λ l. l.head < length (with_name (with_name d.nodes tail) head)) d.links (new_link d name tail head)
          (λ link less. omega (arith, net.head_is_node link less, one.0, two.0)) head_in;
      no_loop = each_more (λ l. l.tail ≢ l.head) d.links (new_link d name tail head) net.no_loop (ends_apart d.nodes tail head met.apart);
      few_out = side_few (λ l. l.tail) d.links (new_link d name tail head) (out_room_at d tail net met.out_room) net.few_out;
      few_in = side_few (λ l. l.head) d.links (new_link d name tail head) (in_room_at d tail head net met.apart met.in_room) net.few_in;
      nodes_apart = apart_named (with_name d.nodes tail) head (apart_named d.nodes tail net.nodes_apart);
      links_apart = subst AreApart (sym (map-append (λ (l : Link). l.name) d.links (new_link d name tail head ∷ []))) (apart_pushed (link_names d) name met.new net.links_apart);
      few_links = omega (arith, met.few, length-append d.links (new_link d name tail head ∷ []));
      most_is_small = net.most_is_small;
      few_nodes = omega (arith, net.few_nodes, one.1, two.1, length-append d.links (new_link d name tail head ∷ []));
    }

then_ok : (first : Result (Unit {0}) NetworkFault) (grown next : NetworkData) → (first >>> Ok grown) ≡ Ok next → (first ≡ Ok tt) × (grown ≡ next)
then_ok (Ok x) grown next is = (refl, cc)
then_ok (Err fault) grown next is = cc

pub stays : NetworksStay
unfolding with_link
stays = record {
  empty = λ most small. record {
    tail_is_node = λ link less. absurd (omega arith);
    head_is_node = λ link less. absurd (omega arith);
    no_loop = λ link less. absurd (omega arith);
    few_out = λ node. omega arith;
    few_in = λ node. omega arith;
    nodes_apart = λ place less. absurd (omega arith);
    links_apart = λ place less. absurd (omega arith);
    few_links = omega arith;
    most_is_small = small;
    few_nodes = omega arith;
  };
  more = λ d next name tail head net is.
      let both = then_ok (checked d name tail head) (network_linked d name tail head) next is in
      subst IsNetwork both.1 (linked_stays d name tail head net (taken d name tail head both.0));
}
