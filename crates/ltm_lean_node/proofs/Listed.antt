-- What is written of a node is what it reads for listed destinations.
use Rattle.std.proofs.Common.{◌≡◌, ℕ, ◌+◌, ◌*◌, ◌<◌, ◌≤◌, List, ◌++◌, Option, length, slice_index, arith, refl, ap, ◌∙◌}
use Rattle.std.proofs.lemmas.Nat.{mul-add-lt}
use Rattle.ltm_units.specs.Bounds.{most_in_slot, most_destinations}
use Rattle.ltm_units.specs.Sums.{sum_below}
use Rattle.ltm_units.proofs.Sums.{sum_below-same}
use Rattle.ltm_curve.specs.Counts.{Counts}
use Rattle.ltm_node.specs.declared.shape.NodeShape.{NodeShape}
use Rattle.ltm_node.specs.Shape.{width, counts_begin, counts_width, supplies_begin, capacities_begin, weights_begin, is_this}
use Rattle.ltm_node.specs.Inputs.{Inputs, sending}
use Rattle.ltm_node.specs.Solvable.{IsSolvable}
use Rattle.ltm_node.specs.Laws.{IsUncounted}
use Rattle.ltm_node.specs.Uncounted.{uncounted}
use Rattle.ltm_node.proofs.Uncounted.{uncounted_is}
use Rattle.ltm_loading.specs.Setting.{Setting, IsSetting}
use Rattle.ltm_loading.specs.Pairs.{arms_of, arm_capacity}
use Rattle.ltm_loading.proofs.Bounds.{arm_capacity_small}
use Rattle.ltm_loading.proofs.Sent.{some_arm_capacity}
use Rattle.ltm_thin.specs.NodeLists.{ReadsListed}
use Rattle.ltm_lean_node.specs.Rows.{listed_shape, IsWritten, AreSent, AreTaken}
use Rattle.ltm_lean_node.specs.Kept.{AreWeightsOf}
use Rattle.ltm_lean_node.proofs.Written.{in_first, in_rest}

-- the parts of a row one behind another
pub row_written : (s : Setting) (u t : ℕ) (shape : NodeShape) (sent takes weights xs ys us ks ws : List ℕ) → length xs ≡ counts_begin shape → length ys ≡ counts_width shape → length us ≡ shape.outs → length ks ≡ shape.arms
    → xs ≡ sent → us ≡ takes → ((i : ℕ) → i < shape.arms → slice_index ks i ≡ arm_capacity s u t i)
    → ((x : ℕ) → x < shape.destinations * shape.outs → slice_index ws x ≡ slice_index weights x) → IsWritten s u t shape sent takes weights (xs ++ (ys ++ (us ++ (ks ++ ws))))
row_written s u t shape sent takes weights xs ys us ks ws x y o a sends supply capacity weight = record {
  sends = λ k l. in_first xs (ys ++ (us ++ (ks ++ ws))) k (omega (arith, x, l)) ∙ ap (λ (z : List ℕ). slice_index z k) sends;
  supply = λ j l.
      in_rest xs (ys ++ (us ++ (ks ++ ws))) (supplies_begin shape + j) (counts_width shape + j) (omega (arith, x))
      ∙ (in_rest ys (us ++ (ks ++ ws)) (counts_width shape + j) j (omega (arith, y)) ∙ (in_first us (ks ++ ws) j (omega (arith, o, l)) ∙ ap (λ (z : List ℕ). slice_index z j) supply));
  capacity = λ i l.
      in_rest xs (ys ++ (us ++ (ks ++ ws))) (capacities_begin shape + i) (counts_width shape + (shape.outs + i)) (omega (arith, x))
      ∙ (in_rest ys (us ++ (ks ++ ws)) (counts_width shape + (shape.outs + i)) (shape.outs + i) (omega (arith, y))
      ∙ (in_rest us (ks ++ ws) (shape.outs + i) i (omega (arith, o)) ∙ (in_first ks ws i (omega (arith, a, l)) ∙ capacity i l)));
  weight = λ j l.
      in_rest xs (ys ++ (us ++ (ks ++ ws))) (weights_begin shape + j) (counts_width shape + (shape.outs + (shape.arms + j))) (omega (arith, x))
      ∙ (in_rest ys (us ++ (ks ++ ws)) (counts_width shape + (shape.outs + (shape.arms + j))) (shape.outs + (shape.arms + j)) (omega (arith, y))
      ∙ (in_rest us (ks ++ ws) (shape.outs + (shape.arms + j)) (shape.arms + j) (omega (arith, o))
      ∙ (in_rest ks ws (shape.arms + j) j (omega (arith, a)) ∙ weight j l)));
}

-- inputs of a row for listed destinations
abbrev pub made : Setting → ℕ → List ℕ → Option ℕ → List ℕ → ℕ → Inputs
made s u list own row room = record { shape = listed_shape s u (length list) own; row = row; room = room }

-- a weight stands behind those of the destinations before
weight_there : (s : Setting) (u t : ℕ) (list sent takes weights row : List ℕ) (own : Option ℕ) → IsWritten s u t (listed_shape s u (length list) own) sent takes weights row → AreWeightsOf s u t list weights → (k j : ℕ) → k < length list → j < s.outs u
    → slice_index row (weights_begin (listed_shape s u (length list) own) + k * s.outs u + j) ≡ s.weight u (slice_index list k) t j
weight_there s u t list sent takes weights row own f w k j x y =
    let place : weights_begin (listed_shape s u (length list) own) + k * s.outs u + j ≡ weights_begin (listed_shape s u (length list) own) + (k * s.outs u + j) = omega arith in
    ap (slice_index row) place ∙ (f.weight (k * s.outs u + j) (omega (arith, mul-add-lt k (s.outs u) j (length list) x y)) ∙ w k j x y)

pub reads_made : (s : Setting) (c : Counts) (u t : ℕ) (list sent takes weights row : List ℕ) (own : Option ℕ) (room : ℕ) → length row ≡ width (listed_shape s u (length list) own)
    → IsWritten s u t (listed_shape s u (length list) own) sent takes weights row → AreWeightsOf s u t list weights → ((k : ℕ) → k < length list → is_this own k ≡ is_this (s.own u) (slice_index list k)) → AreSent s c u t list sent → AreTaken s c u t takes → ReadsListed s c u t list (uncounted (made s u list own row room))
reads_made s c u t list sent takes weights row own room long f w same sends taken =
    let h : IsUncounted (made s u list own row room) (uncounted (made s u list own row room)) = uncounted_is (made s u list own row room) long in
    record {
      long = h.width ∙ long;
      arms = refl;
      outs = refl;
      destinations = refl;
      by_turn = refl;
      own = same;
      sends = λ i k a x. h.sending i k a x ∙ (f.sends (i * length list + k) (omega (arith, mul-add-lt i (length list) k (arms_of s u) a x)) ∙ sends i k a x);
      takes = λ j y. h.supply j y ∙ (f.supply j y ∙ taken j y);
      capacities = λ i a. h.capacity i a ∙ f.capacity i a;
      weights = λ k j x y. h.weight k j x y ∙ weight_there s u t list sent takes weights row own f w k j x y;
      none_left = h.left;
      none_entered = h.entered;
      none_arrived = h.arrived;
    }

pub solvable_made : (s : Setting) (u t : ℕ) (list sent takes weights row : List ℕ) (own : Option ℕ) (room : ℕ) → IsSetting s → u < s.nodes → t < s.slots → length list ≤ most_destinations → ((k : ℕ) → k < length list → slice_index list k < s.destinations)
    → ((j : ℕ) → j < s.outs u → slice_index takes j ≤ most_in_slot) → ((i : ℕ) → i < arms_of s u → sum_below (length list) (λ k. slice_index sent (i * length list + k)) ≤ arm_capacity s u t i)
    → length row ≡ width (listed_shape s u (length list) own) → IsWritten s u t (listed_shape s u (length list) own) sent takes weights row → AreWeightsOf s u t list weights → IsSolvable (uncounted (made s u list own row room))
solvable_made s u t list sent takes weights row own room v x z few below small fits long f ws =
    let n : Inputs = made s u list own row room in
    let h : IsUncounted (made s u list own row room) (uncounted (made s u list own row room)) = uncounted_is (made s u list own row room) long in
    record {
      few_arms = omega (arith, v.small.few_ins u x);
      few_outs = v.small.few_outs u x;
      few_destinations = few;
      some_capacity = λ i a. omega (arith, h.capacity i a, f.capacity i a, some_arm_capacity s u t i v x);
      capacities = λ i a. omega (arith, h.capacity i a, f.capacity i a, arm_capacity_small s u t i v x);
      within_capacity = λ i a.
          let all : sum_below (length list) (sending (uncounted (made s u list own row room)) i) ≡ sum_below (length list) (λ k. slice_index sent (i * length list + k)) =
          sum_below-same (length list) (sending (uncounted (made s u list own row room)) i) (λ k. slice_index sent (i * length list + k))
          (λ k y. h.sending i k a y ∙ f.sends (i * length list + k) (omega (arith, mul-add-lt i (length list) k (arms_of s u) a y))) in
          omega (arith, all, fits i a, h.capacity i a, f.capacity i a);
      supplies = λ j y. omega (arith, h.supply j y, f.supply j y, small j y);
      weights = λ k j y w. omega (arith, h.weight k j y w, weight_there s u t list sent takes weights row own f ws k j y w, v.small.weights u (slice_index list k) t j x (below k y) z w);
      left_counts = λ i k a y. omega (arith, h.left i k a y);
      entered_counts = λ j k a y. omega (arith, h.entered j k a y);
      arrived_count = omega (arith, h.arrived);
    }
