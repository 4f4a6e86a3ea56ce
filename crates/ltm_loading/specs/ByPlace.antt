-- What a pair reads and sets, number by number.
use Rattle.std.specs.Prelude.{◌≡◌, ℕ, ◌<◌, length}
use Rattle.ltm_curve.specs.Counts.{Counts}
use Rattle.ltm_node.specs.Shape.{width, counts_width}
use Rattle.ltm_node.specs.Inputs.{Inputs, sending as node_sending, left, entered, arrived, supply, capacity, weight}
use Rattle.ltm_node.specs.Outputs.{Outputs, left_after, entered_after, arrived_after}
use Rattle.ltm_loading.specs.Setting.{Setting}
use Rattle.ltm_loading.specs.Groups.{up_of}
use Rattle.ltm_loading.specs.Flows.{receiving}
use Rattle.ltm_loading.specs.Pairs.{arms_of, shape_at, sending, arm_group, arm_capacity, arrived_by, pair_inputs, count_row, pair_outputs}
use Rattle.ltm_loading.specs.NextPair.{IsPairInputs}

-- inputs of the node's shape hold what the pair reads
pub record HoldsInputs (s : Setting) (c : Counts) (u t : ℕ) (n : Inputs) : Type 0 where
  pub sending : (i d : ℕ) → i < arms_of s u → d < s.destinations → node_sending n i d ≡ sending s c u t i d
  pub left : (i d : ℕ) → i < arms_of s u → d < s.destinations → left n i d ≡ c (arm_group s u i) d t
  pub entered : (j d : ℕ) → j < s.outs u → d < s.destinations → entered n j d ≡ c (up_of (s.out_link u j)) d t
  pub arrived : arrived n ≡ arrived_by s c (s.own u) t
  pub supply : (j : ℕ) → j < s.outs u → supply n j ≡ receiving s c (s.out_link u j) t
  pub capacity : (i : ℕ) → i < arms_of s u → capacity n i ≡ arm_capacity s u t i
  pub weight : (d j : ℕ) → d < s.destinations → j < s.outs u → weight n d j ≡ s.weight u d t j

-- outputs of the node's shape hold its counts at a boundary
pub record HoldsCounts (s : Setting) (c : Counts) (u k : ℕ) (o : Outputs) : Type 0 where
  pub left : (i d : ℕ) → i < arms_of s u → d < s.destinations → left_after o i d ≡ c (arm_group s u i) d k
  pub entered : (j d : ℕ) → j < s.outs u → d < s.destinations → entered_after o j d ≡ c (up_of (s.out_link u j)) d k
  pub arrived : arrived_after o ≡ arrived_by s c (s.own u) k

-- the inputs of a pair hold what it reads, and no other row of their width does
abbrev pub InputsByPlace : Type 0
InputsByPlace =
    (s : Setting) (c : Counts) (u t : ℕ) →
    HoldsInputs s c u t (pair_inputs s c u t)
    × ((n : Inputs) → n.shape ≡ shape_at s u → length n.row ≡ width n.shape → HoldsInputs s c u t n → IsPairInputs s c u t n)

-- the counts of a node hold them, and no other row of their width does
abbrev pub CountsByPlace : Type 0
CountsByPlace =
    (s : Setting) (c : Counts) (u k : ℕ) →
    HoldsCounts s c u k (pair_outputs s c u k)
    × ((o : Outputs) → o.shape ≡ shape_at s u → length o.row ≡ counts_width o.shape → HoldsCounts s c u k o → count_row s c u k ≡ o.row)
