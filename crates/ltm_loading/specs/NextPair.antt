-- How a front grows, pair after pair.
use Rattle.std.specs.Prelude.{◌≡◌, ◌≢◌, ℕ, ◌+◌, ◌<◌, ◌≤◌, ◌⊎◌, List, Some}
use Rattle.ltm_curve.specs.Counts.{Counts}
use Rattle.ltm_node.specs.Inputs.{Inputs}
use Rattle.ltm_node.specs.Outputs.{Outputs}
use Rattle.ltm_node.specs.Step.{IsNodeStep}
use Rattle.ltm_loading.specs.Setting.{Setting, IsSetting}
use Rattle.ltm_loading.specs.Groups.{up_of, arr_of, groups}
use Rattle.ltm_loading.specs.Pairs.{arms_of, arm_group, shape_at, pair_row, count_row, MeetsStep}
use Rattle.ltm_loading.specs.Loading.{IsFront}

-- the counts that the pairs of a node set
abbrev pub IsOf : Setting → ℕ → ℕ → ℕ → Type 0
IsOf s u g d =
    ((i : ℕ) × (i < arms_of s u) × (arm_group s u i ≡ g))
    ⊎ (((j : ℕ) × (j < s.outs u) × (up_of (s.out_link u j) ≡ g)) ⊎ ((arr_of s ≡ g) × (s.own u ≡ Some d)))

-- the counts of a node are set at a boundary, and no other
pub record Applies (s : Setting) (u k : ℕ) (counts : List ℕ) (old new : Counts) : Type 0 where
  pub given : count_row s new u k ≡ counts
  pub later : (g d j : ℕ) → g < groups s → d < s.destinations → j ≤ s.slots → j ≢ k → new g d j ≡ old g d j
  pub others : (g d : ℕ) → g < groups s → d < s.destinations → (IsOf s u g d → ⊥) → new g d k ≡ old g d k

-- the front up to a slot, and the first nodes of that slot
pub record IsFrontTo (s : Setting) (c : Counts) (slot nodes : ℕ) : Type 0 where
  pub front : IsFront s c slot
  pub done : (u : ℕ) → u < nodes → MeetsStep s c u slot

-- the inputs of a pair
pub record IsPairInputs (s : Setting) (c : Counts) (u t : ℕ) (n : Inputs) : Type 0 where
  pub shape : n.shape ≡ shape_at s u
  pub row : n.row ≡ pair_row s c u t

-- once the node step of a pair is applied, its node is done too
abbrev pub NextPair : Type 0
NextPair =
    (s : Setting) (old new : Counts) (t u : ℕ) (n : Inputs) (o : Outputs) → IsSetting s → t < s.slots → u < s.nodes → IsFrontTo s old t u →
    IsPairInputs s old u t n → IsNodeStep n o → Applies s u (t + 1) o.row old new → IsFrontTo s new t (u + 1)

-- once all nodes are done, the front is one slot longer
abbrev pub NextSlot : Type 0
NextSlot = (s : Setting) (c : Counts) (t : ℕ) → IsFrontTo s c t s.nodes → IsFront s c (t + 1)
