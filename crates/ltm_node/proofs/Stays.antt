-- What a node step keeps: its shape, what has arrived where there is no sink, and all counts where nothing is sent.
use Rattle.std.proofs.Common.{◌≡◌, ℕ, ◌*◌, ◌<◌, Option, None, arith, refl, ap, sym, subst, ◌∙◌}
use Rattle.std.proofs.Math.Logic.{∥∥₁_elim, ∥∥₁_map}
use Rattle.std.proofs.Math.Nat.{ℕ_set}
use Rattle.std.proofs.Props.{props}
use Rattle.ltm_units.specs.Sums.{sum_below}
use Rattle.ltm_units.proofs.Sums.{sum_below-zero}
use Rattle.ltm_shares.specs.Shares.{AreShares, inflow}
use Rattle.ltm_node.specs.declared.shape.NodeShape.{NodeShape}
use Rattle.ltm_node.specs.Shape.{counts_width, is_this}
use Rattle.ltm_node.specs.Inputs.{Inputs}
use Rattle.ltm_node.specs.Outputs.{Outputs}
use Rattle.ltm_node.specs.Demands.{part, sent_into, demands}
use Rattle.ltm_node.specs.Step.{moved, sunk, come, sunk_in_all, StepShares, IsNodeStep}
use Rattle.ltm_node.specs.Narrow.{laid}
use Rattle.ltm_node.specs.Laws.{SameShape, SameInputs, SameOutputs, SameStep, NoArrivals, NothingIsSent, NothingMoves}
use Rattle.ltm_node.proofs.Moved.{moved_nothing}
use Rattle.ltm_node.proofs.Ranges.{sunk_nothing, sunk_elsewhere, part_le}

NodeShape-set : IsSet NodeShape
NodeShape-set = hlevel (ℕ_set, props)

pub same_shape_holds : SameShape
same_shape_holds n o step = (
  ∥∥₁_elim step (NodeShape-set _ _) (λ (x : StepShares n o). x.moves.shape),
  ∥∥₁_elim step (ℕ_set _ _) (λ (x : StepShares n o). x.moves.width ∙ ap counts_width (sym x.moves.shape)),
)

-- the node step at another room
step_in : (n : Inputs) (o : Outputs) (room other : ℕ) → IsNodeStep n o →
    (let m : Inputs = record { shape = n.shape; row = n.row; room = room } in
    let p : Outputs = record { shape = o.shape; row = o.row; room = other } in IsNodeStep m p)
step_in n o room other step =
    ∥∥₁_map step (λ (x : StepShares n o). record {
      denominator = x.denominator;
      numerators = x.numerators;
      shares = x.shares;
      moves = record {
        shape = x.moves.shape;
        width = x.moves.width;
        left = x.moves.left;
        entered = x.moves.entered;
        arrived = x.moves.arrived;
      };
    })

same_inputs : (n m : Inputs) → SameInputs n m → (let same : Inputs = record { shape = n.shape; row = n.row; room = m.room } in same ≡ m)
same_inputs n m h = rw (h.shape, h.row) refl

same_outputs : (o p : Outputs) → SameOutputs o p → (let same : Outputs = record { shape = o.shape; row = o.row; room = p.room } in same ≡ p)
same_outputs o p h = rw (h.shape, h.row) refl

step_over : (n m : Inputs) (o p : Outputs) → SameInputs n m → SameOutputs o p → IsNodeStep n o → IsNodeStep m p
step_over n m o p h g step =
    let other : Outputs = record { shape = o.shape; row = o.row; room = p.room } in
    subst (λ (q : Outputs). IsNodeStep m q) (same_outputs o p g)
    (subst (λ (k : Inputs). IsNodeStep k other) (same_inputs n m h) (step_in n o m.room p.room step))

pub same_step_holds : SameStep
same_step_holds n m o p h g = (
  step_over n m o p h g,
  step_over m n p o (record { shape = sym h.shape; row = sym h.row }) (record { shape = sym g.shape; row = sym g.row }),
)

-- a row of counts that are the node step, in some outputs
pub step_laid : (n : Inputs) (o : Outputs) → o.shape ≡ n.shape → IsNodeStep n (laid n.shape o.row) → IsNodeStep n o
step_laid n o shape step = step_over n n (laid n.shape o.row) o (record { shape = refl; row = refl }) (record { shape = shape; row = refl }) step

-- nothing is sunk at a node that is no destination
none_sunk : (n : Inputs) (e : ℕ) (p : ℕ → ℕ) → n.shape.own ≡ None → sunk_in_all n e p ≡ 0
none_sunk n e p own =
    sum_below-zero n.shape.arms (λ i. sum_below n.shape.destinations (λ d. sunk n e p i d)) (λ i l.
    sum_below-zero n.shape.destinations (λ d. sunk n e p i d) (λ d m. sunk_elsewhere n e p i d (ap (λ (z : Option ℕ). is_this z d) own)))

pub no_arrivals_holds : NoArrivals
no_arrivals_holds n o step own =
    ∥∥₁_elim step (ℕ_set _ _) (λ (x : StepShares n o). omega (arith, x.moves.arrived, none_sunk n x.denominator x.numerators own))

-- at shares of 1
abbrev all : ℕ → ℕ
all arm = 1

nothing_moved : (n : Inputs) → NothingIsSent n → (i d j : ℕ) → i < n.shape.arms → d < n.shape.destinations → moved n 1 all i d j ≡ 0
nothing_moved n none i d j l m = moved_nothing n 1 all i d j (none i d l m)

nothing_sunk : (n : Inputs) → NothingIsSent n → (i d : ℕ) → i < n.shape.arms → d < n.shape.destinations → sunk n 1 all i d ≡ 0
nothing_sunk n none i d l m = sunk_nothing n 1 all i d (none i d l m)

nothing_into : (n : Inputs) → NothingIsSent n → (i j : ℕ) → i < n.shape.arms → sent_into n i j ≡ 0
nothing_into n none i j l = sum_below-zero n.shape.destinations (λ d. part n i d j) (λ d m. omega (arith, part_le n i d j, none i d l m))

nothing_shares : (n : Inputs) → NothingIsSent n → AreShares (demands n) 1 all
nothing_shares n none =
    record {
      positive = omega arith;
      at_most_all = λ i l. omega arith;
      within_supply = λ j l.
          let flow : inflow (demands n) all j ≡ 0 = sum_below-zero n.shape.arms (λ i. all i * sent_into n i j) (λ i m. omega (arith, ap (λ z. all i * z) (nothing_into n none i j m))) in omega arith;
      held_back = λ i l less. absurd (omega arith);
    }

pub nothing_moves_holds : NothingMoves
nothing_moves_holds n o none stays = ∣ record {
  denominator = 1;
  numerators = all;
  shares = nothing_shares n none;
  moves = record {
    shape = stays.shape;
    width = stays.width;
    left = λ i d l m.
        let out : sum_below n.shape.outs (λ j. moved n 1 all i d j) ≡ 0 = sum_below-zero n.shape.outs (λ j. moved n 1 all i d j) (λ j x. nothing_moved n none i d j l m) in
        omega (arith, stays.left i d l m, nothing_sunk n none i d l m);
    entered = λ j d l m.
        let in_all : come n 1 all j d ≡ 0 = sum_below-zero n.shape.arms (λ i. moved n 1 all i d j) (λ i x. nothing_moved n none i d j x m) in
        omega (arith, stays.entered j d l m);
    arrived =
        let sink : sunk_in_all n 1 all ≡ 0 =
        sum_below-zero n.shape.arms (λ i. sum_below n.shape.destinations (λ d. sunk n 1 all i d)) (λ i l. sum_below-zero n.shape.destinations (λ d. sunk n 1 all i d) (λ d m. nothing_sunk n none i d l m)) in
        omega (arith, stays.arrived);
  };
} ∣₁
