-- The links that leave and enter a node, by their places.
use Rattle.std.proofs.Common.{◌≡◌, ℕ, ◌<◌, List, [], ◌∷◌, map, length, slice_index_or, refl, ap, sym, subst, ◌∙◌}
use Rattle.std.specs.List.{Contains}
use Rattle.std.proofs.lemmas.List.{get_or-map, length-map, get_or_default}
use Rattle.ltm_units.specs.declared.places.LinkId.{LinkId}
use Rattle.ltm_network.specs.Network.{NetworkData, tail_of, head_of, out_links, in_links, out_place, in_place}
use Rattle.ltm_network.specs.Places.{LinksAtTheirPlaces}

abbrev pub numbers : List LinkId → List ℕ
numbers links = map (λ (link : LinkId). link.0) links

number_at : (links : List LinkId) (place : ℕ) (d : LinkId) → place < length links → slice_index_or (numbers links) place 0 ≡ (slice_index_or links place d).0
number_at links place d low = get_or-map (λ (link : LinkId). link.0) links place d 0 low

contains_from : (xs : List ℕ) (place x : ℕ) → place < length xs → slice_index_or xs place 0 ≡ x → Contains xs x
contains_from xs place x low at = (place, low, get_or_default xs place x 0 low ∙ at)

-- each link that leaves a node is one, and leaves it
pub leaves : (n : NetworkData) (node : ℕ) (links : List LinkId) (place : ℕ) (d : LinkId) → LinksAtTheirPlaces → numbers links ≡ out_links n node → place < length links
    → ((slice_index_or links place d).0 < length n.links) × (tail_of n (slice_index_or links place d).0 ≡ node)
leaves n node links place d places are low =
    let long : place < length (out_links n node) = subst (λ xs. place < length xs) are (subst (λ m. place < m) (sym (length-map links (λ (link : LinkId). link.0))) low) in
    let same : slice_index_or (out_links n node) place 0 ≡ (slice_index_or links place d).0 = sym (ap (λ xs. slice_index_or xs place 0) are) ∙ number_at links place d low in
    (subst (λ l. l < length n.links) same ((places n).out_link_is_link node place long), subst (λ l. tail_of n l ≡ node) same ((places n).out_link_starts node place long))

-- each link that leaves a node stands among them
pub left_at : (n : NetworkData) (node : ℕ) (links : List LinkId) (link : ℕ) → LinksAtTheirPlaces → numbers links ≡ out_links n node → link < length n.links → tail_of n link ≡ node
    → (place : ℕ) × (place < length links) × ((d : LinkId) → (slice_index_or links place d).0 ≡ link)
left_at n node links link places are low leaves =
    let place : ℕ = out_place n link in
    let below : place < length (out_links n node) = subst (λ u. place < length (out_links n u)) leaves ((places n).out_place_below link low) in
    let long : place < length links = subst (λ m. place < m) (ap length (sym are) ∙ length-map links (λ (l : LinkId). l.0)) below in
    let at : slice_index_or (out_links n node) place 0 ≡ link = subst (λ u. slice_index_or (out_links n u) place 0 ≡ link) leaves ((places n).out_link_at link low) in
    (place, long, λ d. sym (number_at links place d long) ∙ ap (λ xs. slice_index_or xs place 0) are ∙ at)

-- each link that enters a node is one, and enters it
pub enters : (n : NetworkData) (node : ℕ) (links : List LinkId) (place : ℕ) (d : LinkId) → LinksAtTheirPlaces → numbers links ≡ in_links n node → place < length links
    → ((slice_index_or links place d).0 < length n.links) × (head_of n (slice_index_or links place d).0 ≡ node)
enters n node links place d places are low =
    let long : place < length (in_links n node) = subst (λ xs. place < length xs) are (subst (λ m. place < m) (sym (length-map links (λ (link : LinkId). link.0))) low) in
    let same : slice_index_or (in_links n node) place 0 ≡ (slice_index_or links place d).0 = sym (ap (λ xs. slice_index_or xs place 0) are) ∙ number_at links place d low in
    (subst (λ l. l < length n.links) same ((places n).in_link_is_link node place long), subst (λ l. head_of n l ≡ node) same ((places n).in_link_ends node place long))

-- each link that enters a node stands among them
pub entered_at : (n : NetworkData) (node : ℕ) (links : List LinkId) (link : ℕ) → LinksAtTheirPlaces → numbers links ≡ in_links n node → link < length n.links → head_of n link ≡ node
    → Contains (numbers links) link
entered_at n node links link places are low enters =
    let place : ℕ = in_place n link in
    let below : place < length (in_links n node) = subst (λ u. place < length (in_links n u)) enters ((places n).in_place_below link low) in
    let at : slice_index_or (in_links n node) place 0 ≡ link = subst (λ u. slice_index_or (in_links n u) place 0 ≡ link) enters ((places n).in_link_at link low) in
    subst (λ xs. Contains xs link) (sym are) (contains_from (in_links n node) place link below at)

-- a function of the numbers of links
pub map_numbers : (f : ℕ → ℕ) (links : List LinkId) → map (λ (link : LinkId). f link.0) links ≡ map f (numbers links)
map_numbers f [] = refl
map_numbers f (link ∷ links) = ap (λ xs. f link.0 ∷ xs) (map_numbers f links)
