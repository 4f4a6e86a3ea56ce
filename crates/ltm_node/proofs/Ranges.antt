use Rattle.std.proofs.Common.{◌≡◌, ℕ, zero, suc, ◌+◌, ◌-◌, ◌*◌, ◌/◌, ◌^◌, ◌<◌, ◌≤◌, Bool, true, false, cond, List, [], ◌∷◌, sum, drop, slice_index, get_or, length, arith, ap, ◌∙◌, sym}
use Rattle.std.proofs.Math.Nat.{mul-le-mul_right, mul-le-mul_left, div-le_of_le-mul}
use Rattle.std.proofs.lemmas.List.{get_or-take, get_or-drop}
use Rattle.std.proofs.lemmas.List.Sums.{sum_by-cons}
use Rattle.ltm_units.specs.Sums.{sum_below}
use Rattle.ltm_units.specs.Nested.{nested_split}
use Rattle.ltm_units.proofs.Sums.{sum_below-le, le-sum_below, sum_below-most}
use Rattle.ltm_units.proofs.Splits.{nested_split-le}
use Rattle.ltm_node.specs.Shape.{is_own, weights_place}
use Rattle.ltm_node.specs.Inputs.{Inputs, sending, weight, weights}
use Rattle.ltm_node.specs.Demands.{part, to_sink, sent, sent_into}
use Rattle.ltm_node.specs.Solvable.{IsSolvable}
use Rattle.ltm_node.specs.Step.{sunk}

-- ---- sizes

pub fraction_of_le : (p e a : ℕ) → p ≤ e → p * a / e ≤ a
fraction_of_le p e a h = div-le_of_le-mul e (mul-le-mul_right a h)

-- a choice between nothing and an amount
pub chosen_le : (b : Bool) (x m : ℕ) → x ≤ m → cond b 0 x ≤ m
chosen_le true x m h = omega arith
chosen_le false x m h = h

pub chosen_other_le : (b : Bool) (x m : ℕ) → x ≤ m → cond b x 0 ≤ m
chosen_other_le true x m h = h
chosen_other_le false x m h = omega arith

pub part_le : (n : Inputs) (i d j : ℕ) → part n i d j ≤ sending n i d
part_le n i d j = chosen_le (is_own n.shape d) (slice_index (nested_split (sending n i d) (weights n d)) j) (sending n i d) (nested_split-le (weights n d) (sending n i d) j)

pub to_sink_le : (n : Inputs) (i d : ℕ) → to_sink n i d ≤ sending n i d
to_sink_le n i d = chosen_other_le (is_own n.shape d) (sending n i d) (sending n i d) (omega arith)

pub sent_into_le : (n : Inputs) (i j : ℕ) → sent_into n i j ≤ sent n i
sent_into_le n i j = sum_below-le n.shape.destinations (λ d. part n i d j) (λ d. sending n i d) (λ d l. part_le n i d j)

pub sent_small : (n : Inputs) (i : ℕ) → IsSolvable n → i < n.shape.arms → sent n i ≤ 32000
sent_small n i h l = omega (arith, h.within_capacity i l, h.capacities i l)

pub sending_small : (n : Inputs) (i d : ℕ) → IsSolvable n → i < n.shape.arms → d < n.shape.destinations → sending n i d ≤ 32000
sending_small n i d h l m = omega (arith, sent_small n i h l, le-sum_below n.shape.destinations (sending n i) d m)

pub part_small : (n : Inputs) (i d j : ℕ) → IsSolvable n → i < n.shape.arms → d < n.shape.destinations → part n i d j ≤ 32000
part_small n i d j h l m = omega (arith, part_le n i d j, sending_small n i d h l m)

pub sunk_small : (n : Inputs) (e : ℕ) (p : ℕ → ℕ) (i d : ℕ) → IsSolvable n → p i ≤ e → i < n.shape.arms → d < n.shape.destinations → sunk n e p i d ≤ 32000
sunk_small n e p i d h f l m = omega (arith, fraction_of_le (p i) e (to_sink n i d) f, to_sink_le n i d, sending_small n i d h l m)

pub sunk_at_small : (n : Inputs) (e : ℕ) (p : ℕ → ℕ) (d k : ℕ) → IsSolvable n → ((i : ℕ) → i < n.shape.arms → p i ≤ e) → d < n.shape.destinations → k ≤ n.shape.arms → sum_below k (λ i. sunk n e p i d) ≤ k * 32000
sunk_at_small n e p d k h f m few = sum_below-most k (λ i. sunk n e p i d) 32000 (λ i b. sunk_small n e p i d h (f i (omega arith)) (omega arith) m)

pub sunk_all_small : (n : Inputs) (e : ℕ) (p : ℕ → ℕ) (k : ℕ) → IsSolvable n → ((i : ℕ) → i < n.shape.arms → p i ≤ e) → k ≤ n.shape.destinations → sum_below k (λ d. sum_below n.shape.arms (λ i. sunk n e p i d)) ≤ k * 160000
sunk_all_small n e p k h f few =
    sum_below-most k (λ d. sum_below n.shape.arms (λ i. sunk n e p i d)) 160000
    (λ d b. omega (arith, sunk_at_small n e p d n.shape.arms h f (omega arith) (omega arith), h.few_arms))

-- ---- weights

pub sum_most : (xs : List ℕ) (m : ℕ) → ((k : ℕ) → k < length xs → get_or xs k 0 ≤ m) → sum xs ≤ length xs * m
sum_most [] m h = omega arith
sum_most (x ∷ xs) m h =
    let rest : sum xs ≤ length xs * m = sum_most xs m (λ k l. h (suc k) (omega arith)) in
    let first : x ≤ m = h zero (omega arith) in
    omega (arith, sum_by-cons (λ y. y) x xs)

pub weight_of : (n : Inputs) (d k : ℕ) → k < n.shape.outs → get_or (weights n d) k 0 ≡ weight n d k
weight_of n d k l =
    get_or-take (weights_place n.shape d + n.shape.outs - weights_place n.shape d) (drop (weights_place n.shape d) n.row) k 0 (omega arith)
    ∙ get_or-drop (weights_place n.shape d) n.row k 0

pub weights_fit : (n : Inputs) (d : ℕ) (xs : List ℕ) → n.shape.outs ≤ 4 → ((k : ℕ) → k < n.shape.outs → weight n d k ≤ 4294967295) → xs ≡ weights n d → length xs ≡ n.shape.outs → sum xs < 2 ^ 40
weights_fit n d xs few small is long =
    omega (arith, sum_most xs 4294967295 (λ k l. omega (arith, ap (λ z. get_or z k 0) is, weight_of n d k (omega arith), small k (omega arith))), mul-le-mul_right 4294967295 few)

-- ---- a share of nothing

pub nothing_of : (p e x : ℕ) → x ≡ 0 → p * x / e ≡ 0
nothing_of p e x none = omega (arith, mul-le-mul_left p (let z : x ≤ 0 = omega arith in z))

pub weight_within : (xs : List ℕ) (k : ℕ) → get_or xs k 0 ≤ sum xs
weight_within [] k = omega arith
weight_within (x ∷ xs) zero = omega (arith, sum_by-cons (λ y. y) x xs)
weight_within (x ∷ xs) (suc k) = omega (arith, weight_within xs k, sum_by-cons (λ y. y) x xs)

-- ---- the destination that is the node, and the others

pub part_is : (n : Inputs) (amount i d j x : ℕ) → is_own n.shape d ≡ false → amount ≡ sending n i d → x ≡ slice_index (nested_split amount (weights n d)) j → x ≡ part n i d j
part_is n amount i d j x elsewhere is e =
    e ∙ (ap (λ m. slice_index (nested_split m (weights n d)) j) is ∙ sym (ap (λ (b : Bool). cond b 0 (slice_index (nested_split (sending n i d) (weights n d)) j)) elsewhere))

pub part_own : (n : Inputs) (i d j : ℕ) → is_own n.shape d ≡ true → part n i d j ≡ 0
part_own n i d j own = ap (λ (b : Bool). cond b 0 (slice_index (nested_split (sending n i d) (weights n d)) j)) own

pub part_none : (n : Inputs) (i d j : ℕ) → sending n i d ≡ 0 → part n i d j ≡ 0
part_none n i d j none = omega (arith, part_le n i d j)

pub sunk_elsewhere : (n : Inputs) (e : ℕ) (p : ℕ → ℕ) (i d : ℕ) → is_own n.shape d ≡ false → sunk n e p i d ≡ 0
sunk_elsewhere n e p i d elsewhere = nothing_of (p i) e (to_sink n i d) (ap (λ (b : Bool). cond b (sending n i d) 0) elsewhere)

pub sunk_is : (n : Inputs) (e : ℕ) (p : ℕ → ℕ) (i d amount v : ℕ) → is_own n.shape d ≡ true → amount ≡ sending n i d → v ≡ p i * amount / e → v ≡ sunk n e p i d
sunk_is n e p i d amount v own is share =
    share ∙ ap (λ z. p i * z / e) (is ∙ sym (ap (λ (b : Bool). cond b (sending n i d) 0) own))

pub sunk_nothing : (n : Inputs) (e : ℕ) (p : ℕ → ℕ) (i d : ℕ) → sending n i d ≡ 0 → sunk n e p i d ≡ 0
sunk_nothing n e p i d none = nothing_of (p i) e (to_sink n i d) (omega (arith, to_sink_le n i d))
