use Rattle.std.proofs.Common.{◌≡◌, ℕ, ◌+◌, ◌*◌, ◌<◌, ◌≤◌, List, take, drop, length, slice_index, arith, refl, ap, ◌∙◌}
use Rattle.std.proofs.lemmas.List.{get_or-take, get_or-drop}
use Rattle.ltm_units.specs.Sums.{sum_below}
use Rattle.ltm_units.proofs.Sums.{sum_below-same, sum_below-swap}
use Rattle.ltm_shares.specs.Shares.{AreShares, inflow}
use Rattle.ltm_node.specs.Shape.{counts_width}
use Rattle.ltm_node.specs.Inputs.{Inputs, entered}
use Rattle.ltm_node.specs.Outputs.{Outputs, left_after_place, entered_after_place, arrived_after_place}
use Rattle.ltm_node.specs.Demands.{part, sent_into, demands}
use Rattle.ltm_node.specs.Step.{moved, sunk, MovesAtShares, IsNodeStep}
use Rattle.ltm_shares.specs.Sent.{sent_at}
use Rattle.ltm_shares.specs.declared.sent.Sent.{Sent}
use Rattle.ltm_node.specs.declared.portion.Portion.TheVariants.{Whole}
use Rattle.ltm_node.specs.Portion.{numerator}
use Rattle.ltm_node.specs.Moving.{IsMoving, HaveMovedAll, HoldsSent, FitsSupply}
use Rattle.ltm_node.specs.Tally.{HasMovedTo}
use Rattle.ltm_node.proofs.Moved.{moved_whole}
use Rattle.ltm_node.proofs.Amounts.{left_low, entered_low}

begun_at : (n : Inputs) (k : ℕ) → k < counts_width n.shape →
    slice_index (take (counts_width n.shape) (drop (n.shape.arms * n.shape.destinations) n.row)) k ≡ slice_index n.row (n.shape.arms * n.shape.destinations + k)
begun_at n k l =
    get_or-take (counts_width n.shape) (drop (n.shape.arms * n.shape.destinations) n.row) k 0 l ∙ get_or-drop (n.shape.arms * n.shape.destinations) n.row k 0

-- before any destination, the counts are those of the inputs
pub nothing_moved : (n : Inputs) (e : ℕ) (p : ℕ → ℕ) (stands : ℕ → ℕ → ℕ → Type 0) (row : List ℕ) → row ≡ take (counts_width n.shape) (drop (n.shape.arms * n.shape.destinations) n.row) → length row ≡ counts_width n.shape →
    ((i j : ℕ) → i < n.shape.arms → j < n.shape.outs → stands i j 0) → IsMoving n e p stands 0 0 0 row
nothing_moved n e p stands row is long none =
    let base : ℕ = n.shape.arms * n.shape.destinations in
    let at : (k : ℕ) → k < counts_width n.shape → slice_index row k ≡ slice_index n.row (base + k) = λ k l. ap (λ z. slice_index z k) is ∙ begun_at n k l in
    let begun : (j d : ℕ) → j < n.shape.outs → d < n.shape.destinations → slice_index row (entered_after_place n.shape j d) ≡ entered n j d = λ j d jl dl.
    let same : base + entered_after_place n.shape j d ≡ 2 * base + (j * n.shape.destinations + d) = omega arith in
    omega (arith, at (entered_after_place n.shape j d) (omega (arith, entered_low n j d jl dl)), ap (slice_index n.row) same) in
    record {
      width = long;
      left_done = λ i d il dl less. absurd (omega arith);
      left_rest = λ i d il dl more. at (left_after_place n.shape i d) (omega (arith, left_low n i d il dl));
      entered_done = λ j d jl dl less. absurd (omega arith);
      entered_here = λ j jl bl less. absurd (omega arith);
      entered_there = λ j jl bl more. omega (arith, begun j 0 jl bl);
      entered_rest = λ j d jl dl more. begun j d jl dl;
      arrived =
          let same : base + arrived_after_place n.shape ≡ 2 * base + n.shape.outs * n.shape.destinations = omega arith in
          omega (arith, at (arrived_after_place n.shape) (omega arith), ap (slice_index n.row) same);
      turns_done = λ i j il jl less. absurd (omega arith);
      turns_rest = λ i j il jl more. none i j il jl;
    }

-- after all destinations, all has been moved
pub all_moved : (n : Inputs) (e : ℕ) (p : ℕ → ℕ) (stands : ℕ → ℕ → ℕ → Type 0) (o : Outputs) → n.shape.arms ≤ 5 → o.shape ≡ n.shape → IsMoving n e p stands n.shape.destinations 0 0 o.row → MovesAtShares n e p o
all_moved n e p stands o few shape h = record {
  shape = shape;
  width = h.width;
  left = λ i d il dl. ap (λ z. slice_index o.row (left_after_place z i d)) shape ∙ h.left_done i d il dl (omega arith);
  entered = λ j d jl dl. ap (λ z. slice_index o.row (entered_after_place z j d)) shape ∙ h.entered_done j d jl dl dl;
  arrived = ap (λ z. slice_index o.row (arrived_after_place z)) shape ∙ omega (arith, h.arrived, sum_below-swap n.shape.destinations n.shape.arms (λ d i. sunk n e p i d));
}

-- ---- where all arms move all

-- what was moved is what is sent
pub sent_held : (n : Inputs) (row : List ℕ) (sent : Sent) → HaveMovedAll n Whole (HasMovedTo sent) row → HoldsSent n sent
sent_held n row sent h = λ i j il jl.
    let at : HasMovedTo sent n Whole i j n.shape.destinations = h.turns_rest i j il jl (omega arith) in
    at.total ∙ sum_below-same n.shape.destinations (λ d. moved n 1 (numerator Whole) i d j) (λ d. part n i d j) (λ d dl. moved_whole n (numerator Whole) i d j refl dl)

-- where it fits, each share is 1
all_shares : (n : Inputs) (sent : Sent) → HoldsSent n sent → FitsSupply n sent → AreShares (demands n) 1 (numerator Whole)
all_shares n sent held fits = record {
  positive = omega arith;
  at_most_all = λ i il. omega arith;
  within_supply = λ j jl.
      let same : inflow (demands n) (numerator Whole) j ≡ sum_below n.shape.arms (λ i. sent_at sent i j) =
      sum_below-same n.shape.arms (λ i. 1 * sent_into n i j) (λ i. sent_at sent i j) (λ i il. omega (arith, held i j il jl)) in
      omega (arith, fits j jl);
  held_back = λ i il less. absurd (omega arith);
}

pub all_step : (n : Inputs) (o : Outputs) (sent : Sent) → n.shape.arms ≤ 5 → o.shape ≡ n.shape → HaveMovedAll n Whole (HasMovedTo sent) o.row → FitsSupply n sent → IsNodeStep n o
all_step n o sent few shape h fits =
    ∣ record { denominator = 1; numerators = numerator Whole; shares = all_shares n sent (sent_held n o.row sent h) fits; moves = all_moved n 1 (numerator Whole) (HasMovedTo sent n Whole) o few shape h } ∣₁

-- ---- where each arm moves its share

pub share_step : (n : Inputs) (e : ℕ) (p : ℕ → ℕ) (stands : ℕ → ℕ → ℕ → Type 0) (o : Outputs) → n.shape.arms ≤ 5 → AreShares (demands n) e p → o.shape ≡ n.shape → IsMoving n e p stands n.shape.destinations 0 0 o.row → IsNodeStep n o
share_step n e p stands o few h shape moves = ∣ record { denominator = e; numerators = p; shares = h; moves = all_moved n e p stands o few shape moves } ∣₁
