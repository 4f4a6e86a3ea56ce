-- Counts are small, and what a pair reads is in the range of a node step.
use Rattle.std.proofs.Common.{◌≡◌, ℕ, zero, suc, ◌+◌, ◌-◌, ◌*◌, ◌^◌, ◌<◌, ◌≤◌, Option, Some, None, arith, inl, inr, refl, sym, subst}
use Rattle.std.proofs.Math.Nat.{mul-le-mul_right}
use Rattle.std.proofs.lemmas.Bool.{cases_lt}
use Rattle.ltm_units.specs.Sums.{sum_below}
use Rattle.ltm_units.proofs.Sums.{sum_below-le, sum_below-same, sum_below-plus, sum_below-swap, sum_below-most, le-sum_below}
use Rattle.ltm_curve.specs.Counts.{Counts}
use Rattle.ltm_curve.proofs.Lists.{sum_below-minus}
use Rattle.ltm_node.specs.Inputs.{Inputs, sending as node_sending, left, entered, arrived}
use Rattle.ltm_node.specs.Outputs.{Outputs, left_after, entered_after, arrived_after}
use Rattle.ltm_node.specs.Demands.{sent}
use Rattle.ltm_node.specs.Step.{IsNodeStep}
use Rattle.ltm_node.proofs.StepLaws.{sending_kept_holds, nothing_lost_in_all_holds}
use Rattle.ltm_loading.specs.Setting.{Setting, IsSetting}
use Rattle.ltm_loading.specs.Groups.{up_of, down_of, dep_of, arr_of, groups}
use Rattle.ltm_loading.specs.Flows.{link_sending, origin_sending, receiving}
use Rattle.ltm_loading.specs.Pairs.{arms_of, sending, arm_group, arm_capacity, arrived_by, pair_inputs, pair_outputs}
use Rattle.ltm_loading.specs.Loading.{IsFront}
use Rattle.ltm_loading.specs.Ranges.{InRange, CountsSmall}
use Rattle.ltm_loading.proofs.Picks.{pick_first, pick_second}
use Rattle.ltm_loading.proofs.Rows.{pair_parts}
use Rattle.ltm_loading.proofs.Pairs.{Leaves, link_leaves, origin_leaves, Enters, link_enters, entered_grows, arrived_before, arrived_later}
use Rattle.ltm_loading.proofs.Front.{earlier_front}
use Rattle.ltm_loading.proofs.Sent.{arm_sent, some_arm_capacity, link_sent, origin_sent}

pub arm_capacity_small : (s : Setting) (u t i : ℕ) → IsSetting s → u < s.nodes → arm_capacity s u t i ≤ 32000
arm_capacity_small s u t i v x =
    elim (cases_lt i (s.ins u)) [
      | inl link ↦ omega (arith, pick_first i (s.ins u) (s.capacity (s.in_link u i) t) s.origin_capacity link, v.small.capacities (s.in_link u i) t (v.network.in_link_is_link u i x link))
      | inr origin ↦ omega (arith, pick_second i (s.ins u) (s.capacity (s.in_link u i) t) s.origin_capacity origin, v.small.origin_capacity)
    ]

-- what an arm sends in all, as the node reads it
sent_all : (s : Setting) (c : Counts) (t u i : ℕ) → i < arms_of s u → sent (pair_inputs s c u t) i ≡ sum_below s.destinations (sending s c u t i)
sent_all s c t u i l = sum_below-same s.destinations (node_sending (pair_inputs s c u t) i) (sending s c u t i) (λ d m. (pair_parts s c u t).sending i d l m)

pub sent_small : (s : Setting) (c : Counts) (t u i : ℕ) → IsSetting s → IsFront s c t → t < s.slots → u < s.nodes → i < arms_of s u → sent (pair_inputs s c u t) i ≤ 32000
sent_small s c t u i v f y x l = omega (arith, sent_all s c t u i l, arm_sent s c t u i v f y x l, arm_capacity_small s u t i v x)

-- what arrives in a node step was sent
pub arrived_within : (n : Inputs) (o : Outputs) → IsNodeStep n o → arrived_after o ≤ arrived n + sum_below n.shape.destinations (λ d. sum_below n.shape.arms (λ i. node_sending n i d))
arrived_within n o step =
    let lefts : sum_below n.shape.destinations (λ d. sum_below n.shape.arms (λ i. left_after o i d)) ≤ sum_below n.shape.destinations (λ d. sum_below n.shape.arms (λ i. left n i d) + sum_below n.shape.arms (λ i. node_sending n i d)) =
    sum_below-le n.shape.destinations (λ d. sum_below n.shape.arms (λ i. left_after o i d)) (λ d. sum_below n.shape.arms (λ i. left n i d) + sum_below n.shape.arms (λ i. node_sending n i d))
    (λ d m. omega (
      arith,
      sum_below-le n.shape.arms (λ i. left_after o i d) (λ i. left n i d + node_sending n i d) (λ i l. sending_kept_holds n o step i d l m),
      sum_below-plus n.shape.arms (λ i. left n i d) (λ i. node_sending n i d),
    )) in
    let entereds : sum_below n.shape.destinations (λ d. sum_below n.shape.outs (λ j. entered n j d)) ≤ sum_below n.shape.destinations (λ d. sum_below n.shape.outs (λ j. entered_after o j d)) =
    sum_below-le n.shape.destinations (λ d. sum_below n.shape.outs (λ j. entered n j d)) (λ d. sum_below n.shape.outs (λ j. entered_after o j d))
    (λ d m. sum_below-le n.shape.outs (λ j. entered n j d) (λ j. entered_after o j d) (λ j l. entered_grows n o j d step l m)) in
    omega (
      arith,
      lefts,
      entereds,
      sum_below-plus n.shape.destinations (λ d. sum_below n.shape.arms (λ i. left n i d)) (λ d. sum_below n.shape.arms (λ i. node_sending n i d)),
      nothing_lost_in_all_holds n o step,
    )

-- one term of a sum that rises by at most r
pub term_rises : (n : ℕ) (f g : ℕ → ℕ) (r d : ℕ) → d < n → ((k : ℕ) → k < n → f k ≤ g k) → sum_below n g ≤ sum_below n f + r → g d ≤ f d + r
term_rises n f g r d l up h = omega (arith, sum_below-minus n f g up, le-sum_below n (λ k. g k - f k) d l, up d l)

-- a count that rises by little in each slot
pub grows : (s : Setting) (c : Counts) (g d t : ℕ) → IsFront s c t → g < groups s → d < s.destinations → ((k : ℕ) → k < t → c g d (k + 1) ≤ c g d k + 160000) → c g d t ≤ t * 160000
grows s c g d zero f x m h = omega (arith, f.empty g d x m)
grows s c g d (suc t) f x m h =
    let e : t + 1 ≡ suc t = omega arith in
    let before : c g d t ≤ t * 160000 = grows s c g d t (earlier_front s c (suc t) t f (omega arith)) x m (λ k l. h k (omega arith)) in
    let last : c g d (t + 1) ≤ c g d t + 160000 = h t (omega arith) in subst (λ (k : ℕ). c g d k ≤ k * 160000) e (omega arith)

down_grows : (s : Setting) (c : Counts) (l d t : ℕ) → IsSetting s → IsFront s c (t + 1) → l < s.links → d < s.destinations → c (down_of l) d (t + 1) ≤ c (down_of l) d t + 160000
down_grows s c l d t v f x m =
    let now : IsFront s c t = earlier_front s c (t + 1) t f (omega arith) in
    let step : Leaves s c (down_of l) t (link_sending s c l t) = link_leaves s c l t v x (f.steps (s.head l) t (v.network.head_is_node l x) (omega arith)) in
    omega (arith, step.within d m, le-sum_below s.destinations (link_sending s c l t) d m, link_sent s c t l v now x, v.small.capacities l t x)

up_grows : (s : Setting) (c : Counts) (l d t : ℕ) → IsSetting s → IsFront s c (t + 1) → l < s.links → d < s.destinations → c (up_of l) d (t + 1) ≤ c (up_of l) d t + 160000
up_grows s c l d t v f x m =
    let step : Enters s c l t = link_enters s c l t v x (f.steps (s.tail l) t (v.network.tail_is_node l x) (omega arith)) in
    omega (arith, term_rises s.destinations (λ k. c (up_of l) k t) (λ k. c (up_of l) k (t + 1)) (receiving s c l t) d m step.rises step.within, v.small.capacities l t x)

dep_grows : (s : Setting) (c : Counts) (u d t : ℕ) → IsSetting s → IsFront s c (t + 1) → t < s.slots → u < s.nodes → 0 < s.outs u → d < s.destinations → c (dep_of s u) d (t + 1) ≤ c (dep_of s u) d t + 160000
dep_grows s c u d t v f y x some m =
    let now : IsFront s c t = earlier_front s c (t + 1) t f (omega arith) in
    let step : Leaves s c (dep_of s u) t (origin_sending s c u t) = origin_leaves s c u t v x some (f.steps u t x (omega arith)) in
    omega (arith, step.within d m, le-sum_below s.destinations (origin_sending s c u t) d m, origin_sent s c t u v now y x some, v.small.origin_capacity)

arr_grows : (s : Setting) (c : Counts) (d t : ℕ) → IsSetting s → IsFront s c (t + 1) → t < s.slots → d < s.destinations → c (arr_of s) d (t + 1) ≤ c (arr_of s) d t + 160000
arr_grows s c d t v f y m =
    let x : s.place d < s.nodes = v.network.place_is_node d m in
    let now : IsFront s c t = earlier_front s c (t + 1) t f (omega arith) in
    let n : Inputs = pair_inputs s c (s.place d) t in
    let all : sum_below (arms_of s (s.place d)) (λ i. sent (pair_inputs s c (s.place d) t) i) ≤ arms_of s (s.place d) * 32000 =
    sum_below-most (arms_of s (s.place d)) (λ i. sent (pair_inputs s c (s.place d) t) i) 32000 (λ i l. sent_small s c t (s.place d) i v now y x l) in
    let few : arms_of s (s.place d) ≤ 5 = omega (arith, v.small.few_ins (s.place d) x) in
    omega (
      arith,
      arrived_later s c d (t + 1) v m,
      arrived_before s c d t v m,
      arrived_within (pair_inputs s c (s.place d) t) (pair_outputs s c (s.place d) (t + 1)) (f.steps (s.place d) t x (omega arith)),
      sum_below-swap s.destinations (arms_of s (s.place d)) (λ e i. node_sending (pair_inputs s c (s.place d) t) i e),
      all,
      mul-le-mul_right 32000 few,
    )

pub counts_small_holds : CountsSmall
counts_small_holds s c v t f y d m =
    let to : (k : ℕ) → k < t → IsFront s c (k + 1) = λ k l. earlier_front s c t (k + 1) f (omega arith) in (
      λ l x. (
        grows s c (up_of l) d t f (omega arith) m (λ k z. up_grows s c l d k v (to k z) x m),
        grows s c (down_of l) d t f (omega arith) m (λ k z. down_grows s c l d k v (to k z) x m),
      ),
      (
        λ u x some. grows s c (dep_of s u) d t f (omega arith) m (λ k z. dep_grows s c u d k v (to k z) (omega arith) x some m),
        grows s c (arr_of s) d t f (omega arith) m (λ k z. arr_grows s c d k v (to k z) (omega arith) m),
      ),
    )

-- the counts that a pair reads
pub arm_count_small : (s : Setting) (c : Counts) (t u i d : ℕ) → IsSetting s → IsFront s c t → t ≤ s.slots → u < s.nodes → i < arms_of s u → d < s.destinations → c (arm_group s u i) d t ≤ t * 160000
arm_count_small s c t u i d v f y x l m =
    elim (cases_lt i (s.ins u)) [
      | inl link ↦
          let P : ℕ → Type 0 = λ z. c z d t ≤ t * 160000 in
          subst P (sym (pick_first i (s.ins u) (down_of (s.in_link u i)) (dep_of s u) link)) ((counts_small_holds s c v t f y d m).0 (s.in_link u i) (v.network.in_link_is_link u i x link)).1
      | inr origin ↦
          let P : ℕ → Type 0 = λ z. c z d t ≤ t * 160000 in
          subst P (sym (pick_second i (s.ins u) (down_of (s.in_link u i)) (dep_of s u) origin)) ((counts_small_holds s c v t f y d m).1.0 u x (omega arith))
    ]

pub arrived_count_small : (s : Setting) (c : Counts) (t : ℕ) (o : Option ℕ) → IsSetting s → IsFront s c t → t ≤ s.slots → ((d : ℕ) → o ≡ Some d → d < s.destinations) → arrived_by s c o t ≤ t * 160000
arrived_count_small s c t None v f y h = omega arith
arrived_count_small s c t (Some d) v f y h = (counts_small_holds s c v t f y d (h d refl)).1.1

pub in_range_holds : InRange
in_range_holds s c t u v f y x =
    let late : t * 160000 ≤ 2 ^ 48 = omega (arith, v.small.few_slots) in
    record {
      few_arms = omega (arith, v.small.few_ins u x);
      few_outs = v.small.few_outs u x;
      few_destinations = v.small.few_destinations;
      some_capacity = λ i l. omega (arith, (pair_parts s c u t).capacity i l, some_arm_capacity s u t i v x);
      capacities = λ i l. omega (arith, (pair_parts s c u t).capacity i l, arm_capacity_small s u t i v x);
      within_capacity = λ i l. omega (arith, sent_all s c t u i l, (pair_parts s c u t).capacity i l, arm_sent s c t u i v f y x l);
      supplies = λ j l. omega (arith, (pair_parts s c u t).supply j l, v.small.capacities (s.out_link u j) t (v.network.out_link_is_link u j x l));
      weights = λ d j m l. omega (arith, (pair_parts s c u t).weight d j m l, v.small.weights u d t j x m y l);
      left_counts = λ i d l m. omega (arith, (pair_parts s c u t).left i d l m, arm_count_small s c t u i d v f (omega arith) x l m);
      entered_counts = λ j d l m. omega (arith, (pair_parts s c u t).entered j d l m, ((counts_small_holds s c v t f (omega arith) d m).0 (s.out_link u j) (v.network.out_link_is_link u j x l)).0);
      arrived_count = omega (arith, (pair_parts s c u t).arrived, arrived_count_small s c t (s.own u) v f (omega arith) (λ d e. v.network.own_is_destination u d x e));
    }
