-- The links that a search looks at.
use Rattle.std.specs.Prelude.{ℕ, ◌≡◌, ◌<◌, List, map, length, slice_index_or, Contains}
use Rattle.ltm_units.specs.declared.places.LinkId.{LinkId}
use Rattle.ltm_search.specs.Ways.{Ways}

abbrev pub numbers : List LinkId → List ℕ
numbers links = map (λ (link : LinkId). link.0) links

-- these are the links that leave a node
pub record AreLeaving (w : Ways) (node : ℕ) (links : List LinkId) : Type 0 where
  pub each : (i : ℕ) (d : LinkId) → i < length links → ((slice_index_or links i d).0 < w.links) × (w.tail (slice_index_or links i d).0 ≡ node)
  pub all : (link : ℕ) → link < w.links → w.tail link ≡ node → Contains (numbers links) link
