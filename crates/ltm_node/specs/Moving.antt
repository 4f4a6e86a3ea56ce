use Rattle.std.specs.Prelude.{◌≡◌, ℕ, ◌+◌, ◌*◌, ◌/◌, ◌<◌, ◌≤◌, ◌⊎◌, max, List, sum, length, slice_index}
use Rattle.ltm_units.specs.Sums.{sum_below}
use Rattle.ltm_shares.specs.declared.sent.Sent.{Sent}
use Rattle.ltm_shares.specs.Sent.{sent_at}
use Rattle.ltm_shares.specs.Shares.{Demands}
use Rattle.ltm_node.specs.Shape.{counts_width}
use Rattle.ltm_node.specs.declared.loads.Load.{Load}
use Rattle.ltm_node.specs.declared.loads.Part.{Part}
use Rattle.ltm_node.specs.declared.moves.Mover.{Mover}
use Rattle.ltm_node.specs.declared.moves.ways.TwoWays.{TwoWays}
use Rattle.ltm_node.specs.declared.moves.ways.Way.{Way}
use Rattle.ltm_node.specs.declared.portion.Portion.{Portion}
use Rattle.ltm_node.specs.Inputs.{Inputs, sending, left, entered, arrived, supply, capacity, weights}
use Rattle.ltm_node.specs.Outputs.{left_after_place, entered_after_place, arrived_after_place}
use Rattle.ltm_node.specs.Demands.{part, sent, sent_into}
use Rattle.ltm_node.specs.Portion.{denominator, numerator}
use Rattle.ltm_node.specs.Splitting.{HasOne, HasTwo}
use Rattle.ltm_node.specs.Step.{moved, sunk, gone, come}

-- what a tally tells of each turn, an arm and an out-link, where the arm has moved by it to so many destinations; of a
-- destination to which nothing is sent it need not be told
abbrev pub Passes : Inputs → (ℕ → ℕ → ℕ → Type 0) → Type 0
Passes n stands = (i j d : ℕ) → d < n.shape.destinations → part n i d j ≡ 0 → stands i j d → stands i j (d + 1)

-- to the destinations before `b` all arms have moved, and to `b` the arms before `a`, and the arm `a`
-- by the out-links before `k`: the row holds the counts of the inputs and what has been moved, and
-- each turn stands there in the tally; what left an arm for a destination is added last
pub record IsMoving (n : Inputs) (e : ℕ) (p : ℕ → ℕ) (stands : ℕ → ℕ → ℕ → Type 0) (b a k : ℕ) (row : List ℕ) : Type 0 where
  pub width : length row ≡ counts_width n.shape
  pub left_done : (i d : ℕ) → i < n.shape.arms → d < n.shape.destinations → d * 8 + i < b * 8 + a →
      slice_index row (left_after_place n.shape i d) ≡ left n i d + gone n e p i d
  pub left_rest : (i d : ℕ) → i < n.shape.arms → d < n.shape.destinations → b * 8 + a ≤ d * 8 + i →
      slice_index row (left_after_place n.shape i d) ≡ left n i d
  pub entered_done : (j d : ℕ) → j < n.shape.outs → d < n.shape.destinations → d < b →
      slice_index row (entered_after_place n.shape j d) ≡ entered n j d + come n e p j d
  pub entered_here : (j : ℕ) → j < n.shape.outs → b < n.shape.destinations → j < k →
      slice_index row (entered_after_place n.shape j b) ≡ entered n j b + (sum_below a (λ i. moved n e p i b j) + moved n e p a b j)
  pub entered_there : (j : ℕ) → j < n.shape.outs → b < n.shape.destinations → k ≤ j →
      slice_index row (entered_after_place n.shape j b) ≡ entered n j b + sum_below a (λ i. moved n e p i b j)
  pub entered_rest : (j d : ℕ) → j < n.shape.outs → d < n.shape.destinations → b < d →
      slice_index row (entered_after_place n.shape j d) ≡ entered n j d
  pub arrived : slice_index row (arrived_after_place n.shape)
      ≡ arrived n + (sum_below b (λ d. sum_below n.shape.arms (λ i. sunk n e p i d)) + sum_below a (λ i. sunk n e p i b))
  pub turns_done : (i j : ℕ) → i < n.shape.arms → j < n.shape.outs → i * 4 + j < a * 4 + k → stands i j (b + 1)
  pub turns_rest : (i j : ℕ) → i < n.shape.arms → j < n.shape.outs → a * 4 + k ≤ i * 4 + j → stands i j b

-- the same of the arms of a node with their portions
abbrev pub IsMovingBy : Mover → (Inputs → Portion → ℕ → ℕ → ℕ → Type 0) → ℕ → ℕ → ℕ → List ℕ → Type 0
IsMovingBy m stands b a k row =
    IsMoving m.inputs.now (denominator m.portion) (numerator m.portion) (stands m.inputs.now m.portion) b a k row

-- between two arms
abbrev pub IsMovingAt : Mover → (Inputs → Portion → ℕ → ℕ → ℕ → Type 0) → ℕ → ℕ → List ℕ → Type 0
IsMovingAt m stands b a row = IsMovingBy m stands b a 0 row

-- between two destinations
abbrev pub HaveMovedTo : Mover → (Inputs → Portion → ℕ → ℕ → ℕ → Type 0) → ℕ → List ℕ → Type 0
HaveMovedTo m stands b row = IsMovingAt m stands b 0 row

-- behind all destinations
abbrev pub HaveMovedAll : Inputs → Portion → (Inputs → Portion → ℕ → ℕ → ℕ → Type 0) → List ℕ → Type 0
HaveMovedAll n portion stands row =
    IsMoving n (denominator portion) (numerator portion) (stands n portion) n.shape.destinations 0 0 row

-- no arm sends to any of the destinations from this one on to that one
abbrev pub IsSentNothing : Inputs → ℕ → ℕ → Type 0
IsSentNothing n from to = (i d : ℕ) → i < n.shape.arms → from ≤ d → d < to → sending n i d ≡ 0

-- what an arm moves to a destination by an out-link
abbrev pub moved_by : Mover → ℕ → ℕ → ℕ → ℕ
moved_by m arm destination out = moved m.inputs.now (denominator m.portion) (numerator m.portion) arm destination out

-- what an arm sends to a destination
pub record IsLoad (n : Inputs) (load : Load) : Type 0 where
  pub arm : load.arm < n.shape.arms
  pub destination : load.destination < n.shape.destinations
  pub amount : load.amount ≡ sending n load.arm load.destination

-- what an arm sends to a destination by an out-link
pub record IsPart (n : Inputs) (p : Part) : Type 0 where
  pub arm : p.arm < n.shape.arms
  pub destination : p.destination < n.shape.destinations
  pub out : p.out < n.shape.outs
  pub amount : p.amount ≡ part n p.arm p.destination p.out

-- all that goes to a destination goes by one out-link
pub record IsOnlyWay (n : Inputs) (destination : ℕ) (way : Way) : Type 0 where
  pub place : way.place ≡ entered_after_place n.shape way.out destination
  pub all : HasOne (weights n destination) way.out

-- all that goes to a destination goes by two out-links
pub record AreOnlyWays (n : Inputs) (destination : ℕ) (pair : TwoWays) : Type 0 where
  pub first : pair.first.place ≡ entered_after_place n.shape pair.first.out destination
  pub second : pair.second.place ≡ entered_after_place n.shape pair.second.out destination
  pub weight : pair.weight ≡ slice_index (weights n destination) pair.first.out
  pub whole : pair.whole ≡ sum (weights n destination)
  pub all : HasTwo (weights n destination) pair.first.out pair.second.out

-- it holds what each arm sends into each out-link
abbrev pub HoldsSent : Inputs → Sent → Type 0
HoldsSent n s = (i j : ℕ) → i < n.shape.arms → j < n.shape.outs → sent_at s i j ≡ sent_into n i j

-- no out-link gets more than it can take where each arm sends all
abbrev pub FitsSupply : Inputs → Sent → Type 0
FitsSupply n s = (j : ℕ) → j < n.shape.outs → sum_below n.shape.arms (λ i. sent_at s i j) ≤ supply n j

-- the priority of an arm, above 0 also for an arm that sends nothing
abbrev pub priority_or_more : Inputs → ℕ → ℕ
priority_or_more n arm = 1024 * capacity n arm / max 1 (sent n arm)

-- what the first arms send into each out-link
abbrev pub AreTotalsOf : Inputs → Sent → ℕ → (ℕ → ℕ) → Type 0
AreTotalsOf n s first totals = (j : ℕ) → j < n.shape.outs → totals j ≡ sum_below first (λ i. sent_at s i j)

-- what all arms send into each out-link
abbrev pub AreTotals : Inputs → Sent → (ℕ → ℕ) → Type 0
AreTotals n s totals = AreTotalsOf n s n.shape.arms totals

-- the out-link j is the k-th that is asked
pub record Asks (n : Inputs) (m : Demands) (k j : ℕ) : Type 0 where
  pub asked : k < m.outs
  pub is_out : j < n.shape.outs
  pub sending : (i : ℕ) → i < n.shape.arms → m.sending i k ≡ sent_into n i j
  pub supply : m.supply k ≡ supply n j

-- the out-link can take all that is sent to it
abbrev pub TakesAll : Inputs → ℕ → Type 0
TakesAll n j = sum_below n.shape.arms (λ i. sent_into n i j) ≤ supply n j

-- of the first out-links, those are asked that cannot take all that is sent to them
pub record AsksFirst (n : Inputs) (first : ℕ) (m : Demands) : Type 0 where
  pub arms : m.arms ≡ n.shape.arms
  pub few : m.outs ≤ first
  pub priority : (i : ℕ) → i < n.shape.arms → m.priority i ≡ priority_or_more n i
  pub out_links : (k : ℕ) → k < m.outs → (j : ℕ) × Asks n m k j
  pub all : (j : ℕ) → j < first → TakesAll n j ⊎ ((k : ℕ) × Asks n m k j)
  pub clear : (i k : ℕ) → k < 4 → m.outs ≤ k → m.sending i k ≡ 0

-- the demands with a priority for each arm
abbrev pub filled_demands : Inputs → Demands
filled_demands n = record {
  arms = n.shape.arms;
  outs = n.shape.outs;
  sending = sent_into n;
  priority = priority_or_more n;
  supply = supply n;
}

-- the same demands in the range of the node
pub record Agrees (n m : Demands) : Type 0 where
  pub arms : m.arms ≡ n.arms
  pub outs : m.outs ≡ n.outs
  pub sending : (i j : ℕ) → i < n.arms → j < n.outs → m.sending i j ≡ n.sending i j
  pub priority : (i : ℕ) → i < n.arms → m.priority i ≡ n.priority i
  pub supply : (j : ℕ) → j < n.outs → m.supply j ≡ n.supply j
