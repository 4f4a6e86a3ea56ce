-- What a pair would read where nothing has been counted: what its step moves does not depend on the counts.
use Rattle.std.specs.Prelude.{◌≡◌, ℕ, ◌+◌, ◌<◌, List, ◌++◌, slice_index}
use Rattle.ltm_curve.specs.Counts.{Counts}
use Rattle.ltm_curve.specs.First.{list_below}
use Rattle.ltm_node.specs.Shape.{counts_width}
use Rattle.ltm_node.specs.Inputs.{Inputs}
use Rattle.ltm_node.specs.Outputs.{Outputs}
use Rattle.ltm_node.specs.Solvable.{IsSolvable}
use Rattle.ltm_node.specs.Step.{IsNodeStep}
use Rattle.ltm_loading.specs.Setting.{Setting, IsSetting}
use Rattle.ltm_loading.specs.Flows.{receiving}
use Rattle.ltm_loading.specs.Pairs.{arms_of, shape_at, sending, arm_capacity, grid, pair_inputs, count_row}
use Rattle.ltm_loading.specs.Loading.{IsFront}

-- the numbers that a pair reads, with 0 for each count
abbrev pub uncounted_row : Setting → Counts → ℕ → ℕ → List ℕ
uncounted_row s c u t =
    grid (arms_of s u) s.destinations (sending s c u t)
    ++ (grid (arms_of s u) s.destinations (λ i d. 0)
    ++ (grid (s.outs u) s.destinations (λ j d. 0)
    ++ (list_below 1 (λ k. 0)
    ++ (list_below (s.outs u) (λ j. receiving s c (s.out_link u j) t)
    ++ (list_below (arms_of s u) (arm_capacity s u t)
    ++ grid s.destinations (s.outs u) (λ d j. s.weight u d t j))))))

-- these inputs of a pair
pub record IsUncountedPair (s : Setting) (c : Counts) (u t : ℕ) (n : Inputs) : Type 0 where
  pub shape : n.shape ≡ shape_at s u
  pub row : n.row ≡ uncounted_row s c u t

-- the counts of a node at a boundary, and what moves
abbrev pub moved_on : Setting → Counts → ℕ → ℕ → List ℕ → List ℕ
moved_on s c u k moves = list_below (counts_width (shape_at s u)) (λ i. slice_index (count_row s c u k) i + slice_index moves i)

-- outputs of a node
abbrev pub outputs_at : Setting → ℕ → List ℕ → Outputs
outputs_at s u row = record { shape = shape_at s u; row = row; room = 0 }

-- the node step where nothing has been counted is what moves: the counts of the node and what moves are its node step
abbrev pub StepByMoves : Type 0
StepByMoves =
    (s : Setting) (c : Counts) (u t : ℕ) (n : Inputs) (moves : Outputs) → IsUncountedPair s c u t n → IsNodeStep n moves →
    IsNodeStep (pair_inputs s c u t) (outputs_at s u (moved_on s c u t moves.row))

-- these inputs are in the range of a node step
abbrev pub UncountedInRange : Type 0
UncountedInRange =
    (s : Setting) (c : Counts) (t u : ℕ) (n : Inputs) → IsSetting s → IsFront s c t → t < s.slots → u < s.nodes → IsUncountedPair s c u t n → IsSolvable n
