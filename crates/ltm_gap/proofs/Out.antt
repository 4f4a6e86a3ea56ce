-- The links that leave a node, by their places.
use Rattle.std.proofs.Common.{◌≡◌, ℕ, ◌<◌, List, length, slice_index, slice_index_or, sym, subst, ◌∙◌}
use Rattle.std.specs.List.{Contains}
use Rattle.std.proofs.lemmas.List.{get_or-map, length-map, get_or_default}
use Rattle.ltm_units.specs.declared.places.LinkId.{LinkId}
use Rattle.ltm_loading.specs.Setting.{Setting, IsNetwork}
use Rattle.ltm_search.specs.Links.{numbers}

-- these links are those that leave a node
pub record AreOuts (s : Setting) (node : ℕ) (links : List LinkId) : Type 0 where
  pub network : IsNetwork s
  pub there : node < s.nodes
  pub count : length links ≡ s.outs node
  pub each : (j : ℕ) → j < length links → slice_index (numbers links) j ≡ s.out_link node j

number_at : (links : List LinkId) (place : ℕ) (d : LinkId) → place < length links → slice_index (numbers links) place ≡ (slice_index_or links place d).0
number_at links place d low = get_or-map (λ (link : LinkId). link.0) links place d 0 low

-- each of them is a link, and leaves the node
pub leaves : (s : Setting) (node : ℕ) (links : List LinkId) (place : ℕ) (d : LinkId) → AreOuts s node links → place < length links
    → ((slice_index_or links place d).0 < s.links) × (s.tail (slice_index_or links place d).0 ≡ node)
leaves s node links place d are low =
    let within : place < s.outs node = subst (λ n. place < n) are.count low in
    let same : s.out_link node place ≡ (slice_index_or links place d).0 = sym (are.each place low) ∙ number_at links place d low in
    (subst (λ l. l < s.links) same (are.network.out_link_is_link node place are.there within), subst (λ l. s.tail l ≡ node) same (are.network.out_link_starts node place are.there within))

-- each link that leaves the node is one of them
pub left_at : (s : Setting) (node : ℕ) (links : List LinkId) (link : ℕ) → AreOuts s node links → link < s.links → s.tail link ≡ node → Contains (numbers links) link
left_at s node links link are low leaves =
    let place : ℕ = s.out_place link in
    let below : place < s.outs node = subst (λ u. place < s.outs u) leaves (are.network.out_place_below link low) in
    let long : place < length links = subst (λ n. place < n) (sym are.count) below in
    let at : s.out_link node place ≡ link = subst (λ u. s.out_link u place ≡ link) leaves (are.network.out_link_at link low) in
    let longer : place < length (numbers links) = subst (λ n. place < n) (sym (length-map links (λ (l : LinkId). l.0))) long in
    (place, longer, get_or_default (numbers links) place link 0 longer ∙ are.each place long ∙ at)
