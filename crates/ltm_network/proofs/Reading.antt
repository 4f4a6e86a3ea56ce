-- What the tables tell of the network that lies in them.
use Rattle.std.proofs.Common.{◌≡◌, ℕ, ◌<◌, ◌≤◌, List, length, map, get_or, slice_index, Option, Some, None, IfSome, All, sym, ap, subst, ◌∙◌, arith}
use Rattle.std.specs.Option.{option_map}
use Rattle.std.proofs.lemmas.List.{get_or-map, length-map}
use Rattle.ltm_units.specs.declared.places.LinkId.{LinkId}
use Rattle.ltm_units.specs.Bounds.{most_links}
use Rattle.ltm_network.specs.declared.ends.Ends.{Ends}
use Rattle.ltm_network.specs.Names.{place_of}
use Rattle.ltm_network.specs.Nodes.{NodeTables}
use Rattle.ltm_network.specs.Network.{NetworkData, tail_of, head_of, link_names}
use Rattle.ltm_network.specs.IsNetwork.{IsNetwork}
use Rattle.ltm_network.specs.Tables.{network_of, AreTables}
use Rattle.ltm_network.proofs.Apart.{named_there}
use Rattle.ltm_network.proofs.Joined.{length-links_of, names-links_of, tail-links_of, head-links_of}

-- tables in which a network lies
pub record Holds (m : ℕ) (n : NodeTables) (names : List (List ℕ)) (ends : List Ends) (d : NetworkData) : Type 0 where
  pub tables : AreTables m n names ends
  pub network : network_of m n.names names ends ≡ d

pub count_is : (m : ℕ) (n : NodeTables) (names : List (List ℕ)) (ends : List Ends) (d : NetworkData) → Holds m n names ends d → length ends ≡ length d.links
count_is m n names ends d h = sym (length-links_of names ends h.tables.names_long) ∙ ap (λ (x : NetworkData). length x.links) h.network

pub few_ends : (m : ℕ) (n : NodeTables) (names : List (List ℕ)) (ends : List Ends) (d : NetworkData) → Holds m n names ends d → length ends ≤ most_links
few_ends m n names ends d h = omega (arith, length-links_of names ends h.tables.names_long, h.tables.network.few_links, h.tables.network.most_is_small)

pub names_are : (m : ℕ) (n : NodeTables) (names : List (List ℕ)) (ends : List Ends) (d : NetworkData) → Holds m n names ends d → names ≡ link_names d
names_are m n names ends d h = sym (names-links_of names ends h.tables.names_long) ∙ ap link_names h.network

pub tail_is : (m : ℕ) (n : NodeTables) (names : List (List ℕ)) (ends : List Ends) (d : NetworkData) (link : ℕ) (e : Ends) → Holds m n names ends d → link < length d.links → e ≡ get_or ends link e → e.tail ≡ tail_of d link
tail_is m n names ends d link e h less at =
    let inside : link < length ends = omega (arith, count_is m n names ends d h) in
    ap (λ (x : Ends). x.tail) at ∙ sym (tail-links_of names ends link e h.tables.names_long inside) ∙ ap (λ x. tail_of x link) h.network

pub head_is : (m : ℕ) (n : NodeTables) (names : List (List ℕ)) (ends : List Ends) (d : NetworkData) (link : ℕ) (e : Ends) → Holds m n names ends d → link < length d.links → e ≡ get_or ends link e → e.head ≡ head_of d link
head_is m n names ends d link e h less at =
    let inside : link < length ends = omega (arith, count_is m n names ends d h) in
    ap (λ (x : Ends). x.head) at ∙ sym (head-links_of names ends link e h.tables.names_long inside) ∙ ap (λ x. head_of x link) h.network

pub is_network : (m : ℕ) (n : NodeTables) (names : List (List ℕ)) (ends : List Ends) (d : NetworkData) → Holds m n names ends d → IsNetwork d
is_network m n names ends d h = subst IsNetwork h.network h.tables.network

-- a number that is found is inside
pub found_inside : {A : Type 0} (number : A → ℕ) (o : Option A) (names : List (List ℕ)) (name : List ℕ) (count : ℕ) → option_map number o ≡ place_of names name → length names ≡ count → IfSome o (λ x. number x < count)
found_inside number (Some x) names name count is long = omega (arith, (named_there names name (number x) (sym is)).0, long)
found_inside number None names name count is long = tt

-- each link of a row is one of the network
pub all_inside : (links : List LinkId) (row : List ℕ) (count : ℕ) → map (λ (link : LinkId). link.0) links ≡ row → ((place : ℕ) → place < length row → slice_index row place < count) → All (λ (link : LinkId). link.0 < count) links
all_inside links row count is below k d less =
    let at : get_or (map (λ (link : LinkId). link.0) links) k 0 ≡ (get_or links k d).0 = get_or-map (λ (link : LinkId). link.0) links k d 0 less in
    let long : length row ≡ length links = ap length (sym is) ∙ length-map links (λ (link : LinkId). link.0) in
    let inside : k < length row = omega arith in
    let same_at : get_or (map (λ (link : LinkId). link.0) links) k 0 ≡ get_or row k 0 = ap (λ xs. get_or xs k 0) is in
    omega (arith, at, same_at, below k inside)
