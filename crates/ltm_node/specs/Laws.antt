use Rattle.std.specs.Prelude.{◌≡◌, ℕ, ◌+◌, ◌*◌, ◌<◌, ◌≤◌, ◌↔◌, None, length, if◌then◌else◌}
use Rattle.ltm_units.specs.Sums.{sum_below}
use Rattle.ltm_shares.specs.Shares.{AreShares}
use Rattle.ltm_node.specs.Shape.{counts_width, is_own}
use Rattle.ltm_node.specs.Inputs.{Inputs, sending, left, entered, arrived, supply, capacity, weight}
use Rattle.ltm_node.specs.Outputs.{Outputs, left_after, entered_after, arrived_after}
use Rattle.ltm_node.specs.Demands.{demands}
use Rattle.ltm_node.specs.Solvable.{IsSolvable}
use Rattle.ltm_node.specs.Step.{IsNodeStep}

-- two lists of shares for the same inputs are equal fractions
abbrev pub OneSolution : Type 0
OneSolution =
    (n : Inputs) → IsSolvable n → (d e : ℕ) (p q : ℕ → ℕ) → AreShares (demands n) d p → AreShares (demands n) e q →
    (arm : ℕ) → arm < n.shape.arms → p arm * e ≡ q arm * d

-- two node steps of the same inputs are the same counts
abbrev pub OneStep : Type 0
OneStep = (n : Inputs) → IsSolvable n → (one other : Outputs) → IsNodeStep n one → IsNodeStep n other → one.row ≡ other.row

-- what enters an out-link is at most its supply
abbrev pub SupplyKept : Type 0
SupplyKept =
    (n : Inputs) (o : Outputs) → IsNodeStep n o → (out : ℕ) → out < n.shape.outs →
    sum_below n.shape.destinations (λ destination. entered_after o out destination)
    ≤ sum_below n.shape.destinations (λ destination. entered n out destination) + supply n out

-- no arm moves more to a destination than it sends there
abbrev pub SendingKept : Type 0
SendingKept =
    (n : Inputs) (o : Outputs) → IsNodeStep n o → (arm destination : ℕ) → arm < n.shape.arms → destination < n.shape.destinations →
    left_after o arm destination ≤ left n arm destination + sending n arm destination

-- what has arrived for a destination: nothing unless it is the node itself
abbrev pub arrived_for : Inputs → ℕ → ℕ
arrived_for n destination = if is_own n.shape destination then arrived n else 0

abbrev pub arrived_for_after : Inputs → Outputs → ℕ → ℕ
arrived_for_after n o destination = if is_own n.shape destination then arrived_after o else 0

-- for each destination, what leaves the arms is what enters the out-links and the sink
abbrev pub NothingLost : Type 0
NothingLost =
    (n : Inputs) (o : Outputs) → IsNodeStep n o → (destination : ℕ) → destination < n.shape.destinations →
    sum_below n.shape.arms (λ arm. left_after o arm destination)
    + (sum_below n.shape.outs (λ out. entered n out destination) + arrived_for n destination)
    ≡ sum_below n.shape.arms (λ arm. left n arm destination)
    + (sum_below n.shape.outs (λ out. entered_after o out destination) + arrived_for_after n o destination)

-- in all, what leaves the arms is what enters the out-links and the sink
abbrev pub NothingLostInAll : Type 0
NothingLostInAll =
    (n : Inputs) (o : Outputs) → IsNodeStep n o →
    sum_below n.shape.destinations (λ d. sum_below n.shape.arms (λ arm. left_after o arm d))
    + (sum_below n.shape.destinations (λ d. sum_below n.shape.outs (λ out. entered n out d)) + arrived n)
    ≡ sum_below n.shape.destinations (λ d. sum_below n.shape.arms (λ arm. left n arm d))
    + (sum_below n.shape.destinations (λ d. sum_below n.shape.outs (λ out. entered_after o out d)) + arrived_after o)

-- the counts of a step are of the node's shape, and as many as it has
abbrev pub SameShape : Type 0
SameShape = (n : Inputs) (o : Outputs) → IsNodeStep n o → (o.shape ≡ n.shape) × (length o.row ≡ counts_width o.shape)

-- inputs that agree but for their room
pub record SameInputs (n m : Inputs) : Type 0 where
  pub shape : m.shape ≡ n.shape
  pub row : m.row ≡ n.row

-- counts that agree but for their room
pub record SameOutputs (o p : Outputs) : Type 0 where
  pub shape : p.shape ≡ o.shape
  pub row : p.row ≡ o.row

-- the node step does not depend on the room of its buffers
abbrev pub SameStep : Type 0
SameStep = (n m : Inputs) (o p : Outputs) → SameInputs n m → SameOutputs o p → IsNodeStep n o ↔ IsNodeStep m p

-- nothing arrives at a node that is no destination
abbrev pub NoArrivals : Type 0
NoArrivals = (n : Inputs) (o : Outputs) → IsNodeStep n o → n.shape.own ≡ None → arrived_after o ≡ arrived n

-- no arm sends anything
abbrev pub NothingIsSent : Inputs → Type 0
NothingIsSent n = (arm destination : ℕ) → arm < n.shape.arms → destination < n.shape.destinations → sending n arm destination ≡ 0

-- the counts at the end of the slot are those at its beginning
pub record StaysAsItWas (n : Inputs) (o : Outputs) : Type 0 where
  pub shape : o.shape ≡ n.shape
  pub width : length o.row ≡ counts_width n.shape
  pub left : (arm destination : ℕ) → arm < n.shape.arms → destination < n.shape.destinations → left_after o arm destination ≡ left n arm destination
  pub entered : (out destination : ℕ) → out < n.shape.outs → destination < n.shape.destinations → entered_after o out destination ≡ entered n out destination
  pub arrived : arrived_after o ≡ arrived n

-- where nothing is sent, the counts that stay as they were are the node step
abbrev pub NothingMoves : Type 0
NothingMoves = (n : Inputs) (o : Outputs) → NothingIsSent n → StaysAsItWas n o → IsNodeStep n o

-- the same inputs where nothing has been counted
pub record IsUncounted (n m : Inputs) : Type 0 where
  pub shape : m.shape ≡ n.shape
  pub width : length m.row ≡ length n.row
  pub sending : (arm destination : ℕ) → arm < n.shape.arms → destination < n.shape.destinations → sending m arm destination ≡ sending n arm destination
  pub supply : (out : ℕ) → out < n.shape.outs → supply m out ≡ supply n out
  pub capacity : (arm : ℕ) → arm < n.shape.arms → capacity m arm ≡ capacity n arm
  pub weight : (destination out : ℕ) → destination < n.shape.destinations → out < n.shape.outs → weight m destination out ≡ weight n destination out
  pub left : (arm destination : ℕ) → arm < n.shape.arms → destination < n.shape.destinations → left m arm destination ≡ 0
  pub entered : (out destination : ℕ) → out < n.shape.outs → destination < n.shape.destinations → entered m out destination ≡ 0
  pub arrived : arrived m ≡ 0

-- the counts at the end of the slot are those at its beginning and what moves
pub record IsMovedOn (n : Inputs) (moves o : Outputs) : Type 0 where
  pub shape : o.shape ≡ n.shape
  pub width : length o.row ≡ counts_width n.shape
  pub left : (arm destination : ℕ) → arm < n.shape.arms → destination < n.shape.destinations →
      left_after o arm destination ≡ left n arm destination + left_after moves arm destination
  pub entered : (out destination : ℕ) → out < n.shape.outs → destination < n.shape.destinations →
      entered_after o out destination ≡ entered n out destination + entered_after moves out destination
  pub arrived : arrived_after o ≡ arrived n + arrived_after moves

-- what moves does not depend on the counts: it is the node step where nothing has been counted, and the counts and what
-- moves are the node step
abbrev pub MovesAdd : Type 0
MovesAdd = (n m : Inputs) (moves o : Outputs) → IsUncounted n m → IsNodeStep m moves → IsMovedOn n moves o → IsNodeStep n o
