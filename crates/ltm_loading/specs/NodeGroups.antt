-- The groups that the pairs of a node set, in the order of the node's row.
use Rattle.std.specs.Prelude.{◌≡◌, ◌≢◌, ℕ, ◌+◌, ◌-◌, ◌*◌, ◌<◌, ◌⊎◌, List, length, slice_index, if◌then◌else◌, nat_lt, Some}
use Rattle.ltm_curve.specs.Counts.{Counts}
use Rattle.ltm_curve.specs.First.{list_below}
use Rattle.ltm_node.specs.Shape.{counts_width}
use Rattle.ltm_loading.specs.Setting.{Setting, IsSetting}
use Rattle.ltm_loading.specs.Groups.{up_of, arr_of}
use Rattle.ltm_loading.specs.Pairs.{arms_of, arm_group, arrived_by, shape_at, count_row}
use Rattle.ltm_loading.specs.NextPair.{IsOf}

-- one for each arm, and one for each out-link
abbrev pub group_count : Setting → ℕ → ℕ
group_count s u = arms_of s u + s.outs u

-- what has left an arm, and behind all arms what has entered an out-link
abbrev pub node_group : Setting → ℕ → ℕ → ℕ
node_group s u i = if nat_lt i (arms_of s u) then arm_group s u i else up_of (s.out_link u (i - arms_of s u))

abbrev pub node_groups : Setting → ℕ → List ℕ
node_groups s u = list_below (group_count s u) (node_group s u)

-- the counts of a node at a boundary in a row: those of each group so many destinations behind those of the group before it,
-- and last what has arrived
pub record IsRowOf (s : Setting) (c : Counts) (u k : ℕ) (row : List ℕ) : Type 0 where
  pub groups : (i d : ℕ) → i < group_count s u → d < s.destinations → slice_index row (i * s.destinations + d) ≡ c (node_group s u i) d k
  pub arrived : slice_index row (group_count s u * s.destinations) ≡ arrived_by s c (s.own u) k

-- the row of a node's counts is such a row, and no other of its width is
abbrev pub GroupsByRow : Type 0
GroupsByRow =
    (s : Setting) (c : Counts) (u k : ℕ) →
    IsRowOf s c u k (count_row s c u k) × ((row : List ℕ) → length row ≡ counts_width (shape_at s u) → IsRowOf s c u k row → count_row s c u k ≡ row)

-- each is a group of counts before that of what has arrived, and stands once; with what has arrived they are all that the
-- pairs of the node set
pub record GroupsAreSet : Type 0 where
  pub there : (s : Setting) (u i : ℕ) → IsSetting s → u < s.nodes → i < group_count s u → node_group s u i < arr_of s
  pub once : (s : Setting) (u i j : ℕ) → IsSetting s → u < s.nodes → i < j → j < group_count s u → node_group s u i ≢ node_group s u j
  pub set : (s : Setting) (u i d : ℕ) → i < group_count s u → IsOf s u (node_group s u i) d
  pub all : (s : Setting) (u g d : ℕ) → IsOf s u g d → ((i : ℕ) × (i < group_count s u) × (node_group s u i ≡ g)) ⊎ ((arr_of s ≡ g) × (s.own u ≡ Some d))
