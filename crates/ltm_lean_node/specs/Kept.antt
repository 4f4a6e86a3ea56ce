-- The weights of a node that are kept from slot to slot.
use Rattle.std.specs.Prelude.{◌≡◌, ℕ, ◌+◌, ◌*◌, ◌<◌, ◌≤◌, List, length, slice_index}
use Rattle.ltm_loading.specs.Setting.{Setting}
use Rattle.ltm_lean_node.specs.declared.node_weights.NodeWeights.{NodeWeights}

-- the weights of a node in a slot for the destinations of a list, one destination after another
abbrev pub AreWeightsOf : Setting → ℕ → ℕ → List ℕ → List ℕ → Type 0
AreWeightsOf s u t list weights = (k j : ℕ) → k < length list → j < s.outs u → slice_index weights (k * s.outs u + j) ≡ s.weight u (slice_index list k) t j

-- in each slot from one on and below another the weights are those of the first
abbrev pub StayUntil : Setting → ℕ → ℕ → List ℕ → ℕ → Type 0
StayUntil s u from list until = (t k j : ℕ) → from ≤ t → t < until → k < length list → s.weight u (slice_index list k) t j ≡ s.weight u (slice_index list k) from j

-- what is kept of a node are its weights in each slot for which they are kept
pub record AreKept (s : Setting) (u : ℕ) (list : List ℕ) (kept : NodeWeights) : Type 0 where
  pub wide : length kept.weights.items ≡ length list * s.outs u
  pub in_force : (t : ℕ) → kept.from ≤ t → t < kept.until → AreWeightsOf s u t list kept.weights.items
