use Rattle.std.specs.Prelude.{◌≡◌, ℕ, ◌+◌, ◌*◌, ◌/◌, ◌<◌, if◌then◌else◌, List, map, length, slice_index}
use Rattle.std.specs.List.{range_with_len}
use Rattle.ltm_units.specs.Sums.{sum_below}
use Rattle.ltm_units.specs.Nested.{nested_split}
use Rattle.ltm_shares.specs.Shares.{AreShares}
use Rattle.ltm_node.specs.Shape.{counts_width}
use Rattle.ltm_node.specs.Inputs.{Inputs, left, entered, arrived}
use Rattle.ltm_node.specs.Outputs.{Outputs, left_after, entered_after, arrived_after}
use Rattle.ltm_node.specs.Demands.{part, to_sink, sent_into, demands}

-- what an arm sends by an out-link to each destination, in the order of their numbers
abbrev pub parts_into : Inputs → ℕ → ℕ → List ℕ
parts_into n arm out = map (λ destination. part n arm destination out) (range_with_len 0 n.shape.destinations)

-- what an arm moves by an out-link in all where turns are rounded: its share of what it sends by it, rounded down
abbrev pub turned : Inputs → ℕ → (ℕ → ℕ) → ℕ → ℕ → ℕ
turned n denominator numerators arm out = numerators arm * sent_into n arm out / denominator

-- what an arm moves to a destination by an out-link: where turns are rounded, what falls to it of the turn by the nested
-- split; else its share of that part, rounded down
abbrev pub moved : Inputs → ℕ → (ℕ → ℕ) → ℕ → ℕ → ℕ → ℕ
moved n denominator numerators arm destination out =
    if n.shape.by_turn
    then slice_index (nested_split (turned n denominator numerators arm out) (parts_into n arm out)) destination
    else numerators arm * part n arm destination out / denominator

-- what an arm moves to the sink, rounded down
abbrev pub sunk : Inputs → ℕ → (ℕ → ℕ) → ℕ → ℕ → ℕ
sunk n denominator numerators arm destination = numerators arm * to_sink n arm destination / denominator

-- what an arm moves to a destination
abbrev pub gone : Inputs → ℕ → (ℕ → ℕ) → ℕ → ℕ → ℕ
gone n denominator numerators arm destination =
    sum_below n.shape.outs (λ out. moved n denominator numerators arm destination out) + sunk n denominator numerators arm destination

-- what all arms move to a destination by an out-link
abbrev pub come : Inputs → ℕ → (ℕ → ℕ) → ℕ → ℕ → ℕ
come n denominator numerators out destination =
    sum_below n.shape.arms (λ arm. moved n denominator numerators arm destination out)

-- what all arms move to the sink
abbrev pub sunk_in_all : Inputs → ℕ → (ℕ → ℕ) → ℕ
sunk_in_all n denominator numerators =
    sum_below n.shape.arms (λ arm. sum_below n.shape.destinations (λ destination. sunk n denominator numerators arm destination))

-- the counts at the next boundary are those at this one and what the arms move at these shares
pub record MovesAtShares (n : Inputs) (denominator : ℕ) (numerators : ℕ → ℕ) (o : Outputs) : Type 0 where
  pub shape : o.shape ≡ n.shape
  pub width : length o.row ≡ counts_width n.shape
  pub left : (arm destination : ℕ) → arm < n.shape.arms → destination < n.shape.destinations →
      left_after o arm destination ≡ left n arm destination + gone n denominator numerators arm destination
  pub entered : (out destination : ℕ) → out < n.shape.outs → destination < n.shape.destinations →
      entered_after o out destination ≡ entered n out destination + come n denominator numerators out destination
  pub arrived : arrived_after o ≡ arrived n + sunk_in_all n denominator numerators

-- shares by which the counts follow from the inputs
pub record StepShares (n : Inputs) (o : Outputs) : Type 0 where
  pub denominator : ℕ
  pub numerators : ℕ → ℕ
  pub shares : AreShares (demands n) denominator numerators
  pub moves : MovesAtShares n denominator numerators o

-- the counts are the node step of the inputs: there are shares by which they follow
abbrev pub IsNodeStep : Inputs → Outputs → Type 0
IsNodeStep n o = ∥ StepShares n o ∥₁
