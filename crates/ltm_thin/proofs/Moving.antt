-- The node steps of inputs for all destinations and for those of a list move the same.
use Rattle.std.proofs.Common.{◌≡◌, ℕ, ◌*◌, ◌<◌, List, length, slice_index, arith}
use Rattle.std.proofs.Math.Nat.{ℕ_set}
use Rattle.std.proofs.Math.Logic.{∥∥₁_elim}
use Rattle.ltm_units.specs.Sums.{sum_below}
use Rattle.ltm_units.proofs.Sums.{sum_below-same, sum_below-zero}
use Rattle.ltm_shares.specs.Shares.{AreShares}
use Rattle.ltm_node.specs.Inputs.{Inputs, sending}
use Rattle.ltm_node.specs.Outputs.{Outputs}
use Rattle.ltm_node.specs.Demands.{to_sink, demands}
use Rattle.ltm_node.specs.Solvable.{IsSolvable}
use Rattle.ltm_node.specs.Step.{moved, sunk, gone, come, sunk_in_all, StepShares}
use Rattle.ltm_node.proofs.Demanded.{shares_agree}
use Rattle.ltm_node.proofs.Moved.{floor_same, moved_nothing, moved_same as moved_by_shares}
use Rattle.ltm_node.proofs.StepLaws.{one_solution_of_inputs}
use Rattle.ltm_thin.specs.Thinned.{IsThinned, MovesListed, ThinStep, ThinIsSolvable}
use Rattle.ltm_thin.proofs.Thinning.{listed_below, ascends_few, sent_same, demands_same, gone_same, come_same, sunk_nothing, sunk_in_all_same}

-- ---- equal fractions move the same

-- the same fractions over two denominators
record AreBoth (n : Inputs) (d e : ℕ) (p q : ℕ → ℕ) : Type 0 where
  pub positive : 0 < d
  pub positive_other : 0 < e
  pub fractions : (i : ℕ) → i < n.shape.arms → p i * e ≡ q i * d

gone_either : (n : Inputs) (d e : ℕ) (p q : ℕ → ℕ) → AreBoth n d e p q → (i k : ℕ) → i < n.shape.arms → gone n d p i k ≡ gone n e q i k
gone_either n d e p q b i k l =
    let sums : sum_below n.shape.outs (λ j. moved n d p i k j) ≡ sum_below n.shape.outs (λ j. moved n e q i k j) =
    sum_below-same n.shape.outs (λ j. moved n d p i k j) (λ j. moved n e q i k j) (λ j m. moved_by_shares n d e p q i k j b.positive b.positive_other (b.fractions i l)) in
    let sinks : sunk n d p i k ≡ sunk n e q i k = floor_same (p i) d (q i) e (to_sink n i k) b.positive b.positive_other (b.fractions i l) in omega (arith, sums, sinks)

come_either : (n : Inputs) (d e : ℕ) (p q : ℕ → ℕ) → AreBoth n d e p q → (j k : ℕ) → come n d p j k ≡ come n e q j k
come_either n d e p q b j k =
    sum_below-same n.shape.arms (λ i. moved n d p i k j) (λ i. moved n e q i k j) (λ i l. moved_by_shares n d e p q i k j b.positive b.positive_other (b.fractions i l))

sunk_either : (n : Inputs) (d e : ℕ) (p q : ℕ → ℕ) → AreBoth n d e p q → sunk_in_all n d p ≡ sunk_in_all n e q
sunk_either n d e p q b =
    sum_below-same n.shape.arms (λ i. sum_below n.shape.destinations (λ k. sunk n d p i k)) (λ i. sum_below n.shape.destinations (λ k. sunk n e q i k)) (λ i l.
    sum_below-same n.shape.destinations (λ k. sunk n d p i k) (λ k. sunk n e q i k) (λ k m. floor_same (p i) d (q i) e (to_sink n i k) b.positive b.positive_other (b.fractions i l)))

-- the shares of the thin inputs are those of all
both_shares : (n m : Inputs) (ds : List ℕ) (o moves : Outputs) → IsThinned n m ds → IsSolvable n → (x : StepShares n o) (y : StepShares m moves) → AreBoth n x.denominator y.denominator x.numerators y.numerators
both_shares n m ds o moves h s x y =
    let same : AreShares (demands n) y.denominator y.numerators = shares_agree (demands n) (demands m) y.denominator y.numerators (demands_same n m ds h) y.shares in
    record {
      positive = x.shares.positive;
      positive_other = y.shares.positive;
      fractions = one_solution_of_inputs n s x.denominator y.denominator x.numerators y.numerators x.shares same;
    }

gone_nothing : (n : Inputs) (e : ℕ) (p : ℕ → ℕ) (i d : ℕ) → sending n i d ≡ 0 → gone n e p i d ≡ 0
gone_nothing n e p i d none =
    let out : sum_below n.shape.outs (λ j. moved n e p i d j) ≡ 0 = sum_below-zero n.shape.outs (λ j. moved n e p i d j) (λ j l. moved_nothing n e p i d j none) in
    omega (arith, out, sunk_nothing n e p i d none)

come_nothing : (n : Inputs) (e : ℕ) (p : ℕ → ℕ) (j d : ℕ) → ((i : ℕ) → i < n.shape.arms → sending n i d ≡ 0) → come n e p j d ≡ 0
come_nothing n e p j d none = sum_below-zero n.shape.arms (λ i. moved n e p i d j) (λ i l. moved_nothing n e p i d j (none i l))

thin_at : (n m : Inputs) (ds : List ℕ) (o moves : Outputs) → IsThinned n m ds → IsSolvable n → StepShares n o → StepShares m moves → MovesListed n ds o moves
thin_at n m ds o moves h s x y =
    let b : AreBoth n x.denominator y.denominator x.numerators y.numerators = both_shares n m ds o moves h s x y in
    record {
      left = λ i k l z.
          omega (
            arith,
            x.moves.left i (slice_index ds k) l (listed_below n m ds k h z),
            y.moves.left i k (omega (arith, h.arms, l)) (omega (arith, h.destinations, z)),
            h.left i k l z,
            gone_same n m ds y.denominator y.numerators i k h l z,
            gone_either n x.denominator y.denominator x.numerators y.numerators b i (slice_index ds k) l,
          );
      entered = λ j k l z.
          omega (
            arith,
            x.moves.entered j (slice_index ds k) l (listed_below n m ds k h z),
            y.moves.entered j k (omega (arith, h.outs, l)) (omega (arith, h.destinations, z)),
            h.entered j k l z,
            come_same n m ds y.denominator y.numerators j k h z,
            come_either n x.denominator y.denominator x.numerators y.numerators b j (slice_index ds k),
          );
      arrived = omega (
        arith,
        x.moves.arrived,
        y.moves.arrived,
        h.arrived,
        sunk_in_all_same n m ds y.denominator y.numerators h,
        sunk_either n x.denominator y.denominator x.numerators y.numerators b,
      );
      left_others = λ i d l z out. omega (arith, x.moves.left i d l z, gone_nothing n x.denominator x.numerators i d (h.others i d l z out));
      entered_others = λ j d l z out. omega (arith, x.moves.entered j d l z, come_nothing n x.denominator x.numerators j d (λ i a. h.others i d a z out));
    }

pub thin_step_holds : ThinStep
thin_step_holds n m ds o moves h s a b = record {
  left = λ i k l z. ∥∥₁_elim a (ℕ_set _ _) (λ (x : StepShares n o). ∥∥₁_elim b (ℕ_set _ _) (λ (y : StepShares m moves). (thin_at n m ds o moves h s x y).left i k l z));
  entered = λ j k l z. ∥∥₁_elim a (ℕ_set _ _) (λ (x : StepShares n o). ∥∥₁_elim b (ℕ_set _ _) (λ (y : StepShares m moves). (thin_at n m ds o moves h s x y).entered j k l z));
  arrived = ∥∥₁_elim a (ℕ_set _ _) (λ (x : StepShares n o). ∥∥₁_elim b (ℕ_set _ _) (λ (y : StepShares m moves). (thin_at n m ds o moves h s x y).arrived));
  left_others = λ i d l z out. ∥∥₁_elim a (ℕ_set _ _) (λ (x : StepShares n o). ∥∥₁_elim b (ℕ_set _ _) (λ (y : StepShares m moves). (thin_at n m ds o moves h s x y).left_others i d l z out));
  entered_others = λ j d l z out. ∥∥₁_elim a (ℕ_set _ _) (λ (x : StepShares n o). ∥∥₁_elim b (ℕ_set _ _) (λ (y : StepShares m moves). (thin_at n m ds o moves h s x y).entered_others j d l z out));
}

-- ---- sizes

pub thin_is_solvable_holds : ThinIsSolvable
thin_is_solvable_holds n m ds h s = record {
  few_arms = omega (arith, h.arms, s.few_arms);
  few_outs = omega (arith, h.outs, s.few_outs);
  few_destinations = omega (arith, h.destinations, ascends_few n.shape.destinations ds h.order, s.few_destinations);
  some_capacity = λ i l. omega (arith, h.capacity i (omega (arith, h.arms, l)), s.some_capacity i (omega (arith, h.arms, l)));
  capacities = λ i l. omega (arith, h.capacity i (omega (arith, h.arms, l)), s.capacities i (omega (arith, h.arms, l)));
  within_capacity = λ i l. omega (arith, h.capacity i (omega (arith, h.arms, l)), sent_same n m ds i h (omega (arith, h.arms, l)), s.within_capacity i (omega (arith, h.arms, l)));
  supplies = λ j l. omega (arith, h.supply j (omega (arith, h.outs, l)), s.supplies j (omega (arith, h.outs, l)));
  weights = λ k j l x.
      let listed : k < length ds = omega (arith, h.destinations, l) in
      let there : j < n.shape.outs = omega (arith, h.outs, x) in omega (arith, h.weight k j listed there, s.weights (slice_index ds k) j (listed_below n m ds k h listed) there);
  left_counts = λ i k l x. omega (arith, h.left i k (omega (arith, h.arms, l)) (omega (arith, h.destinations, x)));
  entered_counts = λ j k l x. omega (arith, h.entered j k (omega (arith, h.outs, l)) (omega (arith, h.destinations, x)));
  arrived_count = omega (arith, h.arrived);
}
