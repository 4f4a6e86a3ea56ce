-- What a node of a loading reads and moves, told for the destinations of a list alone.
use Rattle.std.specs.Prelude.{◌≡◌, ℕ, ◌+◌, ◌<◌, ◌≤◌, List, length, slice_index}
use Rattle.ltm_curve.specs.Counts.{Counts}
use Rattle.ltm_node.specs.Shape.{width, is_this, is_own}
use Rattle.ltm_node.specs.Inputs.{Inputs, sending, left, entered, arrived, supply, capacity, weight}
use Rattle.ltm_node.specs.Outputs.{Outputs, left_after, entered_after, arrived_after}
use Rattle.ltm_node.specs.Solvable.{IsSolvable}
use Rattle.ltm_node.specs.Step.{IsNodeStep}
use Rattle.ltm_loading.specs.Setting.{Setting, IsSetting}
use Rattle.ltm_loading.specs.Groups.{up_of}
use Rattle.ltm_loading.specs.Flows.{receiving}
use Rattle.ltm_loading.specs.Pairs.{arms_of, sending as arm_sending, arm_group, arm_capacity, arrived_by}
use Rattle.ltm_loading.specs.Loading.{IsLoading}
use Rattle.ltm_standing.specs.Listed.{Ascends, NotIn}

-- a node of a loading, and destinations in order, so that no other ever enters a link into the node or is produced there
pub record IsNodeList (s : Setting) (c : Counts) (u : ℕ) (ds : List ℕ) : Type 0 where
  pub setting : IsSetting s
  pub loading : IsLoading s c
  pub node : u < s.nodes
  pub order : Ascends 0 s.destinations ds
  pub links : (i d k : ℕ) → i < s.ins u → d < s.destinations → k ≤ s.slots → NotIn ds d → c (up_of (s.in_link u i)) d k ≡ 0
  pub origin : (d : ℕ) → d < s.destinations → NotIn ds d → s.produced u d s.slots ≡ 0

-- the inputs of a node in a slot for the destinations of a list alone, where nothing has been counted
pub record ReadsListed (s : Setting) (c : Counts) (u t : ℕ) (ds : List ℕ) (m : Inputs) : Type 0 where
  pub long : length m.row ≡ width m.shape
  pub arms : m.shape.arms ≡ arms_of s u
  pub outs : m.shape.outs ≡ s.outs u
  pub destinations : m.shape.destinations ≡ length ds
  pub by_turn : m.shape.by_turn ≡ s.by_turn
  pub own : (k : ℕ) → k < length ds → is_own m.shape k ≡ is_this (s.own u) (slice_index ds k)
  pub sends : (i k : ℕ) → i < arms_of s u → k < length ds → sending m i k ≡ arm_sending s c u t i (slice_index ds k)
  pub takes : (j : ℕ) → j < s.outs u → supply m j ≡ receiving s c (s.out_link u j) t
  pub capacities : (i : ℕ) → i < arms_of s u → capacity m i ≡ arm_capacity s u t i
  pub weights : (k j : ℕ) → k < length ds → j < s.outs u → weight m k j ≡ s.weight u (slice_index ds k) t j
  pub none_left : (i k : ℕ) → i < arms_of s u → k < length ds → left m i k ≡ 0
  pub none_entered : (j k : ℕ) → j < s.outs u → k < length ds → entered m j k ≡ 0
  pub none_arrived : arrived m ≡ 0

-- in a slot of a loading this moves of the listed destinations, and nothing of the others
pub record MovesInLoading (s : Setting) (c : Counts) (u t : ℕ) (ds : List ℕ) (moves : Outputs) : Type 0 where
  pub left : (i k : ℕ) → i < arms_of s u → k < length ds →
      c (arm_group s u i) (slice_index ds k) (t + 1) ≡ c (arm_group s u i) (slice_index ds k) t + left_after moves i k
  pub entered : (j k : ℕ) → j < s.outs u → k < length ds →
      c (up_of (s.out_link u j)) (slice_index ds k) (t + 1) ≡ c (up_of (s.out_link u j)) (slice_index ds k) t + entered_after moves j k
  pub arrived : arrived_by s c (s.own u) (t + 1) ≡ arrived_by s c (s.own u) t + arrived_after moves
  pub left_others : (i d : ℕ) → i < arms_of s u → d < s.destinations → NotIn ds d → c (arm_group s u i) d (t + 1) ≡ c (arm_group s u i) d t
  pub entered_others : (j d : ℕ) → j < s.outs u → d < s.destinations → NotIn ds d →
      c (up_of (s.out_link u j)) d (t + 1) ≡ c (up_of (s.out_link u j)) d t

-- the node step of what a node reads for listed destinations is what moves in every loading
abbrev pub PairsOverLists : Type 0
PairsOverLists =
    (s : Setting) (c : Counts) (u t : ℕ) (ds : List ℕ) (m : Inputs) (moves : Outputs) →
    IsNodeList s c u ds → t < s.slots → ReadsListed s c u t ds m → IsNodeStep m moves → MovesInLoading s c u t ds moves

-- and it is in the range of a node step
abbrev pub ListedInRange : Type 0
ListedInRange =
    (s : Setting) (c : Counts) (u t : ℕ) (ds : List ℕ) (m : Inputs) → IsNodeList s c u ds → t < s.slots → ReadsListed s c u t ds m → IsSolvable m
