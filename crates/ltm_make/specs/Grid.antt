-- The grid of a made case.
use Rattle.std.specs.Prelude.{ℕ, zero, suc, ◌+◌, ◌*◌, ◌%◌, ◌<◌, ◌≤◌, ◌&&◌, Bool, nat_lt, if◌then◌else◌, List, [], ◌∷◌, ◌++◌}
use Rattle.ltm_make.specs.declared.grid.Road.{Road}

-- the least number whose square is no less than that of the nodes
pub record IsWidth (nodes width : ℕ) : Type 0 where
  pub enough : nodes ≤ width * width
  pub least : (less : ℕ) → less < width → less * less < nodes

-- a node has a neighbour to the right, and one below
abbrev pub has_right : ℕ → ℕ → ℕ → Bool
has_right nodes width k = nat_lt (k % width + 1) width && nat_lt (k + 1) nodes

abbrev pub has_below : ℕ → ℕ → ℕ → Bool
has_below nodes width k = nat_lt (k + width) nodes

-- a road each way
abbrev pub both_ways : ℕ → ℕ → List Road
both_ways a b = record { from = a; to = b } ∷ record { from = b; to = a } ∷ []

-- the roads between a node and the neighbours to the right and below
abbrev pub roads_at : ℕ → ℕ → ℕ → List Road
roads_at nodes width k =
    (if has_right nodes width k then both_ways k (k + 1) else []) ++ (if has_below nodes width k then both_ways k (k + width) else [])

-- those of the first nodes, in order
abbrev pub roads : ℕ → ℕ → ℕ → List Road
roads nodes width zero = []
roads nodes width (suc k) = roads nodes width k ++ roads_at nodes width k
