-- What a node reads for listed destinations, number by number.
use Rattle.std.specs.Prelude.{◌≡◌, ℕ, ◌+◌, ◌*◌, ◌<◌, ◌≤◌, ◌⊎◌, List, Option, length, slice_index}
use Rattle.ltm_curve.specs.Counts.{Counts}
use Rattle.ltm_node.specs.declared.shape.NodeShape.{NodeShape}
use Rattle.ltm_node.specs.Shape.{counts_begin, supplies_begin, capacities_begin, weights_begin}
use Rattle.ltm_loading.specs.Setting.{Setting}
use Rattle.ltm_loading.specs.Flows.{receiving}
use Rattle.ltm_loading.specs.Pairs.{arms_of, sending, arm_capacity}

-- the shape of a node for so many destinations
abbrev pub listed_shape : Setting → ℕ → ℕ → Option ℕ → NodeShape
listed_shape s u many own = record { arms = arms_of s u; outs = s.outs u; destinations = many; own = own; by_turn = s.by_turn }

-- so many numbers are written from a place on, and no other changes
pub record WritesAt (place many : ℕ) (f : ℕ → ℕ) (old new : List ℕ) : Type 0 where
  pub here : (j : ℕ) → j < many → slice_index new (place + j) ≡ f j
  pub others : (x : ℕ) → (x < place) ⊎ (place + many ≤ x) → slice_index new x ≡ slice_index old x

-- the row is what the arms send, the counts, what the out-links take, the capacities of the arms and the weights
pub record IsWritten (s : Setting) (u t : ℕ) (shape : NodeShape) (sent takes weights row : List ℕ) : Type 0 where
  pub sends : (k : ℕ) → k < counts_begin shape → slice_index row k ≡ slice_index sent k
  pub supply : (j : ℕ) → j < shape.outs → slice_index row (supplies_begin shape + j) ≡ slice_index takes j
  pub capacity : (i : ℕ) → i < shape.arms → slice_index row (capacities_begin shape + i) ≡ arm_capacity s u t i
  pub weight : (x : ℕ) → x < shape.destinations * shape.outs → slice_index row (weights_begin shape + x) ≡ slice_index weights x

-- the row begins with what each arm sends of each listed destination
abbrev pub AreSent : Setting → Counts → ℕ → ℕ → List ℕ → List ℕ → Type 0
AreSent s c u t ds row = (i k : ℕ) → i < arms_of s u → k < length ds → slice_index row (i * length ds + k) ≡ sending s c u t i (slice_index ds k)

-- what each out-link can take
abbrev pub AreTaken : Setting → Counts → ℕ → ℕ → List ℕ → Type 0
AreTaken s c u t takes = (j : ℕ) → j < s.outs u → slice_index takes j ≡ receiving s c (s.out_link u j) t
