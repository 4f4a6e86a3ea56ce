-- The node step for the destinations of a list alone.
use Rattle.std.specs.Prelude.{◌≡◌, ℕ, ◌+◌, ◌<◌, List, length, slice_index}
use Rattle.ltm_node.specs.Shape.{width, is_own}
use Rattle.ltm_node.specs.Inputs.{Inputs, sending, left, entered, arrived, supply, capacity, weight}
use Rattle.ltm_node.specs.Outputs.{Outputs, left_after, entered_after, arrived_after}
use Rattle.ltm_node.specs.Solvable.{IsSolvable}
use Rattle.ltm_node.specs.Step.{IsNodeStep}
use Rattle.ltm_standing.specs.Listed.{Ascends, NotIn}

-- inputs and those of the same node for the destinations of a list alone, where nothing has been counted; to no other
-- destination anything is sent
pub record IsThinned (n m : Inputs) (ds : List ℕ) : Type 0 where
  pub order : Ascends 0 n.shape.destinations ds
  pub long : length n.row ≡ width n.shape
  pub thin : length m.row ≡ width m.shape
  pub arms : m.shape.arms ≡ n.shape.arms
  pub outs : m.shape.outs ≡ n.shape.outs
  pub destinations : m.shape.destinations ≡ length ds
  pub by_turn : m.shape.by_turn ≡ n.shape.by_turn
  pub own : (k : ℕ) → k < length ds → is_own m.shape k ≡ is_own n.shape (slice_index ds k)
  pub others : (arm d : ℕ) → arm < n.shape.arms → d < n.shape.destinations → NotIn ds d → sending n arm d ≡ 0
  pub sending : (arm k : ℕ) → arm < n.shape.arms → k < length ds → sending m arm k ≡ sending n arm (slice_index ds k)
  pub supply : (out : ℕ) → out < n.shape.outs → supply m out ≡ supply n out
  pub capacity : (arm : ℕ) → arm < n.shape.arms → capacity m arm ≡ capacity n arm
  pub weight : (k out : ℕ) → k < length ds → out < n.shape.outs → weight m k out ≡ weight n (slice_index ds k) out
  pub left : (arm k : ℕ) → arm < n.shape.arms → k < length ds → left m arm k ≡ 0
  pub entered : (out k : ℕ) → out < n.shape.outs → k < length ds → entered m out k ≡ 0
  pub arrived : arrived m ≡ 0

-- the counts at the end of the slot are those at its beginning and what moves of the listed destinations
pub record MovesListed (n : Inputs) (ds : List ℕ) (o moves : Outputs) : Type 0 where
  pub left_others : (arm d : ℕ) → arm < n.shape.arms → d < n.shape.destinations → NotIn ds d → left_after o arm d ≡ left n arm d
  pub entered_others : (out d : ℕ) → out < n.shape.outs → d < n.shape.destinations → NotIn ds d → entered_after o out d ≡ entered n out d
  pub left : (arm k : ℕ) → arm < n.shape.arms → k < length ds →
      left_after o arm (slice_index ds k) ≡ left n arm (slice_index ds k) + left_after moves arm k
  pub entered : (out k : ℕ) → out < n.shape.outs → k < length ds →
      entered_after o out (slice_index ds k) ≡ entered n out (slice_index ds k) + entered_after moves out k
  pub arrived : arrived_after o ≡ arrived n + arrived_after moves

-- a destination to which nothing is sent changes nothing: by the node steps of both inputs the same moves
abbrev pub ThinStep : Type 0
ThinStep = (n m : Inputs) (ds : List ℕ) (o moves : Outputs) → IsThinned n m ds → IsSolvable n → IsNodeStep n o → IsNodeStep m moves → MovesListed n ds o moves

-- and there is a node step of both
abbrev pub ThinIsSolvable : Type 0
ThinIsSolvable = (n m : Inputs) (ds : List ℕ) → IsThinned n m ds → IsSolvable n → IsSolvable m
