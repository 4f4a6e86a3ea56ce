-- The readers of a commit, worked by hand on one road: its entry is closed in slot 0, and the first pair of n1 is committed.
use Rattle.std.specs.Prelude.{◌≡◌, ℕ, Bool, true, false, List, [], ◌∷◌, map}
use Rattle.ltm_curve.specs.Counts.{Counts}
use Rattle.ltm_loading.specs.Flows.{position}
use Rattle.ltm_loading.specs.OneRoad.{one_road, road_counts, open_counts}
use Rattle.ltm_pairs.specs.Readers.{reads_commit}

-- the counts of the open road, but nothing has entered it, or left n1, by boundary 1
abbrev pub first_counts : Counts
first_counts = road_counts (0 ∷ 0 ∷ 1000 ∷ 1000 ∷ 1000 ∷ []) (0 ∷ 0 ∷ 0 ∷ 500 ∷ 1000 ∷ [])

-- which slots of a node read that commit
abbrev pub readers_of : ℕ → List Bool
readers_of node = map (λ slot. reads_commit (one_road 0) open_counts first_counts 0 1 node slot) (0 ∷ 1 ∷ 2 ∷ 3 ∷ [])

-- n1 in slot 1 reads it, and n2 in the slots 1 and 2; the position of n2 in slot 3 is boundary 3, and so it does not
pub record ReadersOnOneRoad : Type 0 where
  pub n1 : readers_of 0 ≡ false ∷ true ∷ false ∷ false ∷ []
  pub n2 : readers_of 1 ≡ false ∷ true ∷ true ∷ false ∷ []
  pub positions : map (position (one_road 0) open_counts 0) (0 ∷ 1 ∷ 2 ∷ 3 ∷ []) ≡ 0 ∷ 0 ∷ 1 ∷ 3 ∷ []
