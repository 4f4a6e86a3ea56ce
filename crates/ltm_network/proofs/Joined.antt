-- How the links lie in their tables, and the tables with one more link.
use Rattle.std.proofs.Common.{◌≡◌, ℕ, suc, zero, ◌<◌, ◌≤◌, ◌==◌, Bool, true, false, cond, List, [], ◌∷◌, ◌++◌, length, map, get_or, is_some, refl, sym, ap, subst, ◌∙◌, arith, length-append, inl, inr}
use Rattle.std.proofs.Math.ListN.{set, length-set, get_or-append}
use Rattle.std.proofs.Math.Seq.{get_or-append_seam}
use Rattle.std.proofs.lemmas.List.{get_or-set_same, get_or-set_other}
use Rattle.std.proofs.lemmas.Bool.{cases_lt, cases_eq}
use Rattle.std.proofs.lemmas.Bool.Decides.{nat_tests}
use Rattle.ltm_network.specs.declared.ends.Ends.{Ends}
use Rattle.ltm_network.specs.Names.{place_of, with_name, number_of}
use Rattle.ltm_network.specs.Numbers.{numbers_of}
use Rattle.ltm_network.specs.Nodes.{NodeTables, with_row_if_new, with_node, with_ends}
use Rattle.ltm_network.specs.Network.{Link, NetworkData, no_link, leaves, enters, out_links, in_links, network_linked}
use Rattle.ltm_network.specs.IsNetwork.{IsNetwork}
use Rattle.ltm_network.specs.Tables.{links_of, network_of, AreTables}
use Rattle.ltm_network.proofs.Apart.{length-named, number_inside}
use Rattle.ltm_network.proofs.Counted.{passes, fails, none_leaves, none_enters}
use Rattle.ltm_network.proofs.Growing.{IsTaken, linked_stays, out_room_at, in_room_at}

one_less : (m n : ℕ) → suc m ≡ suc n → m ≡ n
one_less m n is = omega arith

pub length-links_of : (names : List (List ℕ)) (ends : List Ends) → length names ≡ length ends → length (links_of names ends) ≡ length ends
length-links_of [] ends is = is
length-links_of (name ∷ names) [] is = absurd (omega arith)
length-links_of (name ∷ names) (e ∷ ends) is = ap suc (length-links_of names ends (one_less _ _ is))

pub names-links_of : (names : List (List ℕ)) (ends : List Ends) → length names ≡ length ends → map (λ (l : Link). l.name) (links_of names ends) ≡ names
names-links_of [] ends is = refl
names-links_of (name ∷ names) [] is = absurd (omega arith)
names-links_of (name ∷ names) (e ∷ ends) is = ap (λ t. name ∷ t) (names-links_of names ends (one_less _ _ is))

pub tail-links_of : (names : List (List ℕ)) (ends : List Ends) (k : ℕ) (d : Ends) → length names ≡ length ends → k < length ends → (get_or (links_of names ends) k no_link).tail ≡ (get_or ends k d).tail
tail-links_of [] ends k d is less = absurd (omega arith)
tail-links_of (name ∷ names) [] k d is less = absurd (omega arith)
tail-links_of (name ∷ names) (e ∷ ends) zero d is less = refl
tail-links_of (name ∷ names) (e ∷ ends) (suc k) d is less = tail-links_of names ends k d (one_less _ _ is) (omega arith)

pub head-links_of : (names : List (List ℕ)) (ends : List Ends) (k : ℕ) (d : Ends) → length names ≡ length ends → k < length ends → (get_or (links_of names ends) k no_link).head ≡ (get_or ends k d).head
head-links_of [] ends k d is less = absurd (omega arith)
head-links_of (name ∷ names) [] k d is less = absurd (omega arith)
head-links_of (name ∷ names) (e ∷ ends) zero d is less = refl
head-links_of (name ∷ names) (e ∷ ends) (suc k) d is less = head-links_of names ends k d (one_less _ _ is) (omega arith)

pub links_of-push : (names : List (List ℕ)) (ends : List Ends) (name : List ℕ) (e : Ends) → length names ≡ length ends →
    links_of (names ++ name ∷ []) (ends ++ e ∷ []) ≡ links_of names ends ++ record { name = name; tail = e.tail; head = e.head } ∷ []
links_of-push [] [] name e is = refl
links_of-push [] (f ∷ ends) name e is = absurd (omega arith)
links_of-push (other ∷ names) [] name e is = absurd (omega arith)
links_of-push (other ∷ names) (f ∷ ends) name e is = ap (λ t. record { name = other; tail = f.tail; head = f.head } ∷ t) (links_of-push names ends name e (one_less _ _ is))

length_by : (names : List (List ℕ)) (name : List ℕ) (table : List (List ℕ)) (b : Bool) → length table ≡ length names → length (cond b table (table ++ [] ∷ [])) ≡ length (cond b names (names ++ name ∷ []))
length_by names name table true is = is
length_by names name table false is = omega (arith, is, length-append table ([] ∷ []), length-append names (name ∷ []))

-- a grown table is as long as the names with the new one
pub length-grown : (names : List (List ℕ)) (name : List ℕ) (table : List (List ℕ)) → length table ≡ length names → length (with_row_if_new names name table) ≡ length (with_name names name)
length-grown names name table is = length_by names name table (is_some (place_of names name)) is

row_by : (names : List (List ℕ)) (name : List ℕ) (table : List (List ℕ)) (f : ℕ → List ℕ) (b : Bool) → length table ≡ length names → ((u : ℕ) → u < length names → get_or table u [] ≡ f u) → ((u : ℕ) → length names ≤ u → f u ≡ []) →
    (u : ℕ) → u < length (cond b names (names ++ name ∷ [])) → get_or (cond b table (table ++ [] ∷ [])) u [] ≡ f u
row_by names name table f true long rows none u less = rows u less
row_by names name table f false long rows none u less =
    elim (cases_lt u (length names)) [
      | inl before ↦ get_or-append table ([] ∷ []) [] u (omega arith) ∙ rows u before
      | inr past ↦
          let at : u ≡ length table = omega (arith, length-append names (name ∷ [])) in
          ap (λ k. get_or (table ++ [] ∷ []) k []) at ∙ get_or-append_seam table [] [] [] ∙ sym (none u past)
    ]

-- its rows are as before, where the new one is empty
pub row-grown : (names : List (List ℕ)) (name : List ℕ) (table : List (List ℕ)) (f : ℕ → List ℕ) → length table ≡ length names → ((u : ℕ) → u < length names → get_or table u [] ≡ f u) → ((u : ℕ) → length names ≤ u → f u ≡ []) →
    (u : ℕ) → u < length (with_name names name) → get_or (with_row_if_new names name table) u [] ≡ f u
row-grown names name table f long rows none u less = row_by names name table f (is_some (place_of names name)) long rows none u less

-- the rows of one side, after a link at a node
pub side : (node_of : Link → ℕ) (nodes : ℕ) (links : List Link) (e : Link) (link : ℕ) (table : List (List ℕ)) → length table ≡ nodes → node_of e < nodes → link ≡ length links →
    ((u : ℕ) → u < nodes → get_or table u [] ≡ numbers_of (λ l. node_of l == u) 0 links) →
    (u : ℕ) → u < nodes → get_or (set table (node_of e) (get_or table (node_of e) [] ++ link ∷ [])) u [] ≡ numbers_of (λ l. node_of l == u) 0 (links ++ e ∷ [])
side node_of nodes links e link table long there is rows u less =
    elim (cases_eq (node_of e) u) [
      | inl here ↦
          let test : (node_of e == u) ≡ true = grind (arith, nat_tests) in
          let inside : node_of e < length table = omega arith in
          ap (λ k. get_or (set table (node_of e) (get_or table (node_of e) [] ++ link ∷ [])) k []) (sym here) ∙ get_or-set_same table (node_of e) _ [] inside
          ∙ ap (λ xs. xs ++ link ∷ []) (rows (node_of e) there ∙ ap (λ k. numbers_of (λ l. node_of l == k) 0 links) here) ∙ sym (passes (λ l. node_of l == u) links e link test is)
      | inr apart ↦
          let test : (node_of e == u) ≡ false = grind (arith, nat_tests) in
          get_or-set_other table (node_of e) u _ [] (λ one. apart (sym one)) ∙ rows u less ∙ sym (fails (λ l. node_of l == u) links e test)
    ]

-- the ends of a link in their table
abbrev pub ends_at : ℕ → ℕ → Ends
ends_at tail head = record { tail = tail; head = head }

-- the tables and a link that is taken
pub record IsJoined (m : ℕ) (n : NodeTables) (names : List (List ℕ)) (ends : List Ends) (name tail head : List ℕ) (link t h : ℕ) : Type 0 where
  pub tables : AreTables m n names ends
  pub met : IsTaken (network_of m n.names names ends) name tail head
  pub link_is : link ≡ length ends
  pub tail_is : t ≡ number_of n.names tail
  pub head_is : h ≡ number_of (with_name n.names tail) head

-- the network in the tables is the old one with the link
pub joined_data : (m : ℕ) (n : NodeTables) (names : List (List ℕ)) (ends : List Ends) (name tail head : List ℕ) (link t h : ℕ) → IsJoined m n names ends name tail head link t h →
    network_of m (with_ends (with_node (with_node n tail) head) link t h).names (names ++ name ∷ []) (ends ++ ends_at t h ∷ []) ≡ network_linked (network_of m n.names names ends) name tail head
joined_data m n names ends name tail head link t h j =
    let pushed = links_of-push names ends name (ends_at t h) j.tables.names_long in
    let net : List Link → NetworkData = λ links. record { most_links = m; nodes = with_name (with_name n.names tail) head; links = links } in
    ap net pushed ∙ ap (λ x. net (links_of names ends ++ record { name = name; tail = x; head = h } ∷ [])) j.tail_is
    ∙ ap (λ x. net (links_of names ends ++ record { name = name; tail = number_of n.names tail; head = x } ∷ [])) j.head_is

joined_outs : (m : ℕ) (n : NodeTables) (names : List (List ℕ)) (ends : List Ends) (name tail head : List ℕ) (link t h : ℕ) → IsJoined m n names ends name tail head link t h →
    (length (with_node (with_node n tail) head).outs ≡ length (with_name (with_name n.names tail) head)) × ((u : ℕ) → u < length (with_name (with_name n.names tail) head) → get_or (with_node (with_node n tail) head).outs u [] ≡ out_links (network_of m n.names names ends) u)
joined_outs m n names ends name tail head link t h j =
    let d = network_of m n.names names ends in
    let none = none_leaves d j.tables.network in
    let one = row-grown n.names tail n.outs (out_links d) j.tables.outs_long j.tables.outs_are none in
    let none2 : (u : ℕ) → length (with_name n.names tail) ≤ u → out_links d u ≡ [] = λ u past. none u (omega (arith, past, (length-named n.names tail).0)) in
    let long = length-grown n.names tail n.outs j.tables.outs_long in
    (length-grown (with_name n.names tail) head (with_row_if_new n.names tail n.outs) long, row-grown (with_name n.names tail) head (with_row_if_new n.names tail n.outs) (out_links d) long one none2)

joined_ins : (m : ℕ) (n : NodeTables) (names : List (List ℕ)) (ends : List Ends) (name tail head : List ℕ) (link t h : ℕ) → IsJoined m n names ends name tail head link t h →
    (length (with_node (with_node n tail) head).ins ≡ length (with_name (with_name n.names tail) head)) × ((u : ℕ) → u < length (with_name (with_name n.names tail) head) → get_or (with_node (with_node n tail) head).ins u [] ≡ in_links (network_of m n.names names ends) u)
joined_ins m n names ends name tail head link t h j =
    let d = network_of m n.names names ends in
    let none = none_enters d j.tables.network in
    let one = row-grown n.names tail n.ins (in_links d) j.tables.ins_long j.tables.ins_are none in
    let none2 : (u : ℕ) → length (with_name n.names tail) ≤ u → in_links d u ≡ [] = λ u past. none u (omega (arith, past, (length-named n.names tail).0)) in
    let long = length-grown n.names tail n.ins j.tables.ins_long in
    (length-grown (with_name n.names tail) head (with_row_if_new n.names tail n.ins) long, row-grown (with_name n.names tail) head (with_row_if_new n.names tail n.ins) (in_links d) long one none2)

-- what connecting the ends asks for
pub record HasRoom (n : NodeTables) (t h : ℕ) : Type 0 where
  pub tail_there : t < length n.outs
  pub head_there : h < length n.ins
  pub out_room : length (get_or n.outs t []) < 4
  pub in_room : length (get_or n.ins h []) < 4

pub joined_room : (m : ℕ) (n : NodeTables) (names : List (List ℕ)) (ends : List Ends) (name tail head : List ℕ) (link t h : ℕ) → IsJoined m n names ends name tail head link t h → HasRoom (with_node (with_node n tail) head) t h
joined_room m n names ends name tail head link t h j =
    let outs = joined_outs m n names ends name tail head link t h j in
    let ins = joined_ins m n names ends name tail head link t h j in
    let two = length-named (with_name n.names tail) head in
    let tail_in : t < length (with_name (with_name n.names tail) head) = omega (arith, j.tail_is, number_inside n.names tail, two.0) in
    let head_in : h < length (with_name (with_name n.names tail) head) = omega (arith, j.head_is, number_inside (with_name n.names tail) head) in
    let out_row = outs.1 t tail_in ∙ ap (out_links (network_of m n.names names ends)) j.tail_is in
    let in_row = ins.1 h head_in ∙ ap (in_links (network_of m n.names names ends)) j.head_is in
    record {
      tail_there = omega (arith, outs.0, tail_in);
      head_there = omega (arith, ins.0, head_in);
      out_room = omega (arith, ap length out_row, out_room_at (network_of m n.names names ends) tail j.tables.network j.met.out_room);
      in_room = omega (arith, ap length in_row, in_room_at (network_of m n.names names ends) tail head j.tables.network j.met.apart j.met.in_room);
    }

pub joined_tables : (m : ℕ) (n : NodeTables) (names : List (List ℕ)) (ends : List Ends) (name tail head : List ℕ) (link t h : ℕ) → IsJoined m n names ends name tail head link t h →
    AreTables m (with_ends (with_node (with_node n tail) head) link t h) (names ++ name ∷ []) (ends ++ ends_at t h ∷ [])
joined_tables m n names ends name tail head link t h j =
    let outs = joined_outs m n names ends name tail head link t h j in
    let ins = joined_ins m n names ends name tail head link t h j in
    let room = joined_room m n names ends name tail head link t h j in
    let nodes : ℕ = length (with_name (with_name n.names tail) head) in
    let e : Link = record { name = name; tail = t; head = h } in
    let at : link ≡ length (links_of names ends) = j.link_is ∙ sym (length-links_of names ends j.tables.names_long) in
    let pushed = links_of-push names ends name (ends_at t h) j.tables.names_long in
    let out_rows = side (λ l. l.tail) nodes (links_of names ends) e link (with_node (with_node n tail) head).outs outs.0 (omega (arith, room.tail_there, outs.0)) at outs.1 in
    let in_rows = side (λ l. l.head) nodes (links_of names ends) e link (with_node (with_node n tail) head).ins ins.0 (omega (arith, room.head_there, ins.0)) at ins.1 in
    record {
      outs_long = length-set (with_node (with_node n tail) head).outs t _ ∙ outs.0;
      ins_long = length-set (with_node (with_node n tail) head).ins h _ ∙ ins.0;
      names_long = omega (arith, j.tables.names_long, length-append names (name ∷ []), length-append ends (ends_at t h ∷ []));
      outs_are = λ u less. out_rows u less ∙ ap (numbers_of (leaves u) 0) (sym pushed);
      ins_are = λ u less. in_rows u less ∙ ap (numbers_of (enters u) 0) (sym pushed);
      network = subst IsNetwork (sym (joined_data m n names ends name tail head link t h j)) (linked_stays (network_of m n.names names ends) name tail head j.tables.network j.met);
    }
