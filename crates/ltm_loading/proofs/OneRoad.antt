-- One road, worked by hand.
use Rattle.std.proofs.Common.{◌≡◌, ℕ, zero, suc, ◌+◌, ◌*◌, ◌<◌, ◌≤◌, arith, refl, subst}
use Rattle.std.specs.Prelude.{Some}
use Rattle.ltm_units.specs.Sums.{sum_below}
use Rattle.ltm_curve.specs.Counts.{Counts}
use Rattle.ltm_node.specs.Inputs.{Inputs, left as node_left, entered as node_entered, arrived as node_arrived, supply}
use Rattle.ltm_node.specs.Outputs.{Outputs, left_after, entered_after, arrived_after}
use Rattle.ltm_node.specs.Demands.{sent_into, priority}
use Rattle.ltm_node.specs.Step.{gone, come, sunk_in_all}
use Rattle.ltm_loading.specs.Setting.{IsNetwork, IsSmall, IsSetting}
use Rattle.ltm_loading.specs.Pairs.{pair_inputs, pair_outputs, MeetsStep}
use Rattle.ltm_loading.specs.Loading.{IsLoading}
use Rattle.ltm_loading.specs.Differing.{differing, unlike}
use Rattle.ltm_loading.specs.OneRoad.{one_road, open_counts, closed_counts, OneRoadIsWorked}

-- what holds of the first numbers holds of each below their end
below_one : (P : ℕ → Type 0) → P 0 → (k : ℕ) → k < 1 → P k
below_one P a k l = let e : 0 ≡ k = omega arith in subst P e a

below_two : (P : ℕ → Type 0) → P 0 → P 1 → (k : ℕ) → k < 2 → P k
below_two P a b zero l = a
below_two P a b (suc k) l = below_one (λ i. P (suc i)) b k (omega arith)

below_four : (P : ℕ → Type 0) → P 0 → P 1 → P 2 → P 3 → (k : ℕ) → k < 4 → P k
below_four P a b c d zero l = a
below_four P a b c d (suc zero) l = b
below_four P a b c d (suc (suc k)) l = below_two (λ i. P (suc (suc i))) c d k (omega arith)

below_five : (P : ℕ → Type 0) → P 0 → P 1 → P 2 → P 3 → P 4 → (k : ℕ) → k < 5 → P k
below_five P a b c d e zero l = a
below_five P a b c d e (suc k) l = below_four (λ i. P (suc i)) b c d e k (omega arith)

road_network : (limit : ℕ) → IsNetwork (one_road limit)
road_network limit = record {
  head_is_node = λ l x. omega arith;
  in_place_below = λ l x. omega arith;
  in_link_at = λ l x. omega arith;
  in_link_is_link = λ u i x y. omega arith;
  in_link_ends = λ u i x y. omega arith;
  in_place_of = λ u i x y. omega arith;
  tail_is_node = λ l x. omega arith;
  out_place_below = λ l x. omega arith;
  out_link_at = λ l x. omega arith;
  out_link_is_link = λ u j x y. omega arith;
  out_link_starts = λ u j x. below_two (λ z. j < (one_road limit).outs z → 0 ≡ z) (λ y. refl) (λ y. absurd (omega arith)) u x;
  out_place_of = λ u j x. below_two (λ z. j < (one_road limit).outs z → 0 ≡ j) (λ y. omega arith) (λ y. absurd (omega arith)) u x;
  place_is_node = λ d x. omega arith;
  own_at = λ d x. below_one (λ z. Some 0 ≡ Some z) refl d x;
  own_is_destination = λ u d x. below_two (λ z. (one_road limit).own z ≡ Some d → d < 1) (λ e. absurd (cc)) (λ e. let z : 0 ≡ d = cc in omega arith) u x;
  own_place = λ u d x. below_two (λ z. (one_road limit).own z ≡ Some d → 1 ≡ z) (λ e. absurd (cc)) (λ e. refl) u x;
}

road_small : (limit : ℕ) → IsSmall (one_road limit)
road_small limit = record {
  few_slots = omega arith;
  few_ins = λ u x. omega arith;
  few_outs = λ u x. below_two (λ z. (one_road limit).outs z ≤ 4) (omega arith) (omega arith) u x;
  few_destinations = omega arith;
  capacities = λ l t x. omega arith;
  origin_capacity = omega arith;
  weights = λ u d t j x y z w. omega arith;
}

produced_rises : (limit d : ℕ) (u k : ℕ) → u < 2 → k < 4 → (one_road limit).produced u d k ≤ (one_road limit).produced u d (k + 1)
produced_rises limit d u k x y =
    below_two (λ z. (one_road limit).produced z d k ≤ (one_road limit).produced z d (k + 1))
    (below_four (λ z. (one_road limit).produced 0 d z ≤ (one_road limit).produced 0 d (z + 1)) (omega arith) (omega arith) (omega arith) (omega arith) k y)
    (omega arith) u x

pub road_setting : (limit : ℕ) → IsSetting (one_road limit)
road_setting limit = record {
  network = road_network limit;
  small = road_small limit;
  some_step = omega arith;
  some_capacity = λ l t x. omega arith;
  even_capacity = λ l t k x. omega arith;
  some_origin_capacity = omega arith;
  free_time = λ l x. omega arith;
  wave_time = λ l x. omega arith;
  produced_none = λ u d x m. below_two (λ z. (one_road limit).produced z d 0 ≡ 0) refl refl u x;
  produced_rises = λ u x d k m y. produced_rises limit d u k x y;
}

-- ---- the node steps
-- what a node reads and sets
abbrev reads : ℕ → Counts → ℕ → ℕ → Inputs
reads limit c u t = pair_inputs (one_road limit) c u t

abbrev sets : ℕ → Counts → ℕ → ℕ → Outputs
sets limit c u t = pair_outputs (one_road limit) c u (t + 1)

-- a node with one arm moves the share p of d of what the arm sends
record Moves (n : Inputs) (o : Outputs) (d p : ℕ) : Type 0 where
  some : 0 < d
  part : p ≤ d
  left : left_after o 0 0 ≡ node_left n 0 0 + gone n d (λ i. p) 0 0
  arrived : arrived_after o ≡ node_arrived n + sunk_in_all n d (λ i. p)

-- n1 moves all that its origin sends, or what fills the road
record Fills (n : Inputs) (o : Outputs) (d p : ℕ) : Type 0 where
  entered : entered_after o 0 0 ≡ node_entered n 0 0 + come n d (λ i. p) 0 0
  within : sum_below 1 (λ i. p * sent_into n i 0) ≤ supply n 0 * d
  full : p < d → (0 < sent_into n 0 0) × (sum_below 1 (λ i. p * sent_into n i 0) ≡ supply n 0 * d)

n1_step : (limit : ℕ) (c : Counts) (t d p : ℕ) → Moves (reads limit c 0 t) (sets limit c 0 t) d p → Fills (reads limit c 0 t) (sets limit c 0 t) d p → MeetsStep (one_road limit) c 0 t
n1_step limit c t d p moves fills =
    ∣ record {
      denominator = d;
      numerators = λ i. p;
      shares = record {
        positive = moves.some;
        at_most_all = λ i x. moves.part;
        within_supply = λ j x. below_one (λ z. sum_below 1 (λ i. p * sent_into (reads limit c 0 t) i z) ≤ supply (reads limit c 0 t) z * d) fills.within j x;
        held_back = λ i x low. (
          0,
          record {
            is_out = omega arith;
            uses = below_one (λ z. 0 < sent_into (reads limit c 0 t) z 0) (fills.full low).0 i x;
            full = (fills.full low).1;
            greatest = λ k y used. let e : i ≡ k = omega arith in subst (λ z. p * priority (reads limit c 0 t) i ≤ p * priority (reads limit c 0 t) z) e (omega arith);
          },
        );
      };
      moves = record {
        shape = refl;
        width = refl;
        left = λ i e x y.
            below_one (λ z. left_after (sets limit c 0 t) z e ≡ node_left (reads limit c 0 t) z e + gone (reads limit c 0 t) d (λ k. p) z e)
            (below_one (λ z. left_after (sets limit c 0 t) 0 z ≡ node_left (reads limit c 0 t) 0 z + gone (reads limit c 0 t) d (λ k. p) 0 z) moves.left e y) i x;
        entered = λ j e x y.
            below_one (λ z. entered_after (sets limit c 0 t) z e ≡ node_entered (reads limit c 0 t) z e + come (reads limit c 0 t) d (λ k. p) z e)
            (below_one (λ z. entered_after (sets limit c 0 t) 0 z ≡ node_entered (reads limit c 0 t) 0 z + come (reads limit c 0 t) d (λ k. p) 0 z) fills.entered e y) j x;
        arrived = moves.arrived;
      };
    } ∣₁

-- n2 takes all that the road sends
n2_step : (limit : ℕ) (c : Counts) (t : ℕ) → Moves (reads limit c 1 t) (sets limit c 1 t) 1 1 → MeetsStep (one_road limit) c 1 t
n2_step limit c t moves = ∣ record {
  denominator = 1;
  numerators = λ i. 1;
  shares = record {
    positive = omega arith;
    at_most_all = λ i x. omega arith;
    within_supply = λ j x. absurd (omega arith);
    held_back = λ i x low. absurd (omega arith);
  };
  moves = record {
    shape = refl;
    width = refl;
    left = λ i e x y.
        below_one (λ z. left_after (sets limit c 1 t) z e ≡ node_left (reads limit c 1 t) z e + gone (reads limit c 1 t) 1 (λ k. 1) z e)
        (below_one (λ z. left_after (sets limit c 1 t) 0 z ≡ node_left (reads limit c 1 t) 0 z + gone (reads limit c 1 t) 1 (λ k. 1) 0 z) moves.left e y) i x;
    entered = λ j e x y. absurd (omega arith);
    arrived = moves.arrived;
  };
} ∣₁

-- at a share that is all
whole : {n : Inputs} {o : Outputs} → left_after o 0 0 ≡ node_left n 0 0 + gone n 1 (λ i. 1) 0 0 → arrived_after o ≡ node_arrived n + sunk_in_all n 1 (λ i. 1) → Moves n o 1 1
whole left arrived = record { some = omega arith; part = omega arith; left = left; arrived = arrived }

n1_whole : (limit : ℕ) (c : Counts) (t : ℕ) → Moves (reads limit c 0 t) (sets limit c 0 t) 1 1 →
    entered_after (sets limit c 0 t) 0 0 ≡ node_entered (reads limit c 0 t) 0 0 + come (reads limit c 0 t) 1 (λ i. 1) 0 0 →
    sum_below 1 (λ i. 1 * sent_into (reads limit c 0 t) i 0) ≤ supply (reads limit c 0 t) 0 * 1 → MeetsStep (one_road limit) c 0 t
n1_whole limit c t moves entered within = n1_step limit c t 1 1 moves (record { entered = entered; within = within; full = λ low. absurd (omega arith) })

open_n1 : (t : ℕ) → t < 4 → MeetsStep (one_road 32000) open_counts 0 t
open_n1 t y = below_four (λ z. MeetsStep (one_road 32000) open_counts 0 z)
    (n1_whole 32000 open_counts 0 (whole refl refl) refl (omega arith)) (n1_whole 32000 open_counts 1 (whole refl refl) refl (omega arith))
    (n1_whole 32000 open_counts 2 (whole refl refl) refl (omega arith)) (n1_whole 32000 open_counts 3 (whole refl refl) refl (omega arith)) t y

open_n2 : (t : ℕ) → t < 4 → MeetsStep (one_road 32000) open_counts 1 t
open_n2 t y = below_four (λ z. MeetsStep (one_road 32000) open_counts 1 z)
    (n2_step 32000 open_counts 0 (whole refl refl)) (n2_step 32000 open_counts 1 (whole refl refl))
    (n2_step 32000 open_counts 2 (whole refl refl)) (n2_step 32000 open_counts 3 (whole refl refl)) t y

-- with the entry closed n1 moves nothing in slot 0, and half of what waits in slot 1
closed_n1 : (t : ℕ) → t < 4 → MeetsStep (one_road 0) closed_counts 0 t
closed_n1 t y = below_four (λ z. MeetsStep (one_road 0) closed_counts 0 z)
    (n1_step 0 closed_counts 0 1 0 (record { some = omega arith; part = omega arith; left = refl; arrived = refl })
    (record { entered = refl; within = omega arith; full = λ low. (omega arith, refl) }))
    (n1_step 0 closed_counts 1 2 1 (record { some = omega arith; part = omega arith; left = refl; arrived = refl })
    (record { entered = refl; within = omega arith; full = λ low. (omega arith, refl) }))
    (n1_whole 0 closed_counts 2 (whole refl refl) refl (omega arith)) (n1_whole 0 closed_counts 3 (whole refl refl) refl (omega arith)) t y

closed_n2 : (t : ℕ) → t < 4 → MeetsStep (one_road 0) closed_counts 1 t
closed_n2 t y = below_four (λ z. MeetsStep (one_road 0) closed_counts 1 z)
    (n2_step 0 closed_counts 0 (whole refl refl)) (n2_step 0 closed_counts 1 (whole refl refl))
    (n2_step 0 closed_counts 2 (whole refl refl)) (n2_step 0 closed_counts 3 (whole refl refl)) t y

-- ---- the loadings
pub open_loading : IsLoading (one_road 32000) open_counts
open_loading = record {
  front = record {
    empty = λ g d x m. below_five (λ z. open_counts z d 0 ≡ 0) refl refl refl refl refl g x;
    steps = λ u t x y. below_two (λ z. MeetsStep (one_road 32000) open_counts z t) (open_n1 t y) (open_n2 t y) u x;
  };
  no_origin = λ u d k x. below_two (λ z. (one_road 32000).outs z ≡ 0 → d < 1 → k ≤ 4 → open_counts (2 * 1 + z) d k ≡ 0) (λ none. absurd (omega arith)) (λ none m l. refl) u x;
}

pub closed_loading : IsLoading (one_road 0) closed_counts
closed_loading = record {
  front = record {
    empty = λ g d x m. below_five (λ z. closed_counts z d 0 ≡ 0) refl refl refl refl refl g x;
    steps = λ u t x y. below_two (λ z. MeetsStep (one_road 0) closed_counts z t) (closed_n1 t y) (closed_n2 t y) u x;
  };
  no_origin = λ u d k x. below_two (λ z. (one_road 0).outs z ≡ 0 → d < 1 → k ≤ 4 → closed_counts (2 * 1 + z) d k ≡ 0) (λ none. absurd (omega arith)) (λ none m l. refl) u x;
}

pub road_differs : differing (one_road 32000) (one_road 0) open_counts closed_counts ≡ 5
unfolding differing unlike
road_differs = refl

pub one_road_is_worked_holds : OneRoadIsWorked
one_road_is_worked_holds = record { setting = road_setting; before = open_loading; after = closed_loading; n1_before = refl; n1_after = refl; n2_before = refl; n2_after = refl; differ = road_differs }
