-- What is sent to the destinations of a list is what is sent to all.
use Rattle.std.proofs.Common.{◌≡◌, ℕ, ◌+◌, ◌-◌, ◌*◌, ◌/◌, ◌<◌, ◌≤◌, cond, Bool, List, [], ◌∷◌, map, drop, length, slice_index, arith, refl, sym, ap, ◌∙◌}
use Rattle.std.proofs.Math.Nat.{mul-le-mul_right}
use Rattle.std.proofs.lemmas.List.{ext_get_or, length-drop, length-take-le}
use Rattle.ltm_units.specs.Sums.{sum_below}
use Rattle.ltm_units.specs.Nested.{nested_split}
use Rattle.ltm_units.proofs.Sums.{sum_below-same}
use Rattle.ltm_curve.specs.First.{list_below}
use Rattle.ltm_curve.proofs.Lists.{list_from}
use Rattle.ltm_node.specs.Shape.{width, is_own, weights_place}
use Rattle.ltm_node.specs.Inputs.{Inputs, sending, capacity, weights}
use Rattle.ltm_node.specs.Demands.{part, to_sink, sent, sent_into, demands}
use Rattle.ltm_node.specs.Step.{parts_into, turned, moved, sunk, gone, come, sunk_in_all}
use Rattle.ltm_node.specs.Moving.{Agrees}
use Rattle.ltm_node.proofs.Ranges.{weight_of, part_none, nothing_of, to_sink_le}
use Rattle.ltm_node.proofs.Moved.{parts_long, parts_at}
use Rattle.ltm_standing.specs.Listed.{Ascends, NotIn}
use Rattle.ltm_standing.proofs.Thin.{IsThin, thin, ascends_before}
use Rattle.ltm_standing.proofs.Links.{thin_total}
use Rattle.ltm_thin.specs.Thinned.{IsThinned}

-- ---- sums and splits over a list

-- a sum of as many terms
count_same : (a b : ℕ) (f g : ℕ → ℕ) → a ≡ b → ((k : ℕ) → k < b → f k ≡ g k) → sum_below a f ≡ sum_below b g
count_same a b f g e same = ap (λ (z : ℕ). sum_below z f) e ∙ sum_below-same b f g same

-- where those outside a list are 0, the sum over all is that over the list
thin_sum : (n : ℕ) (f : ℕ → ℕ) (ds : List ℕ) → Ascends 0 n ds → ((d : ℕ) → d < n → NotIn ds d → f d ≡ 0) → sum_below (length ds) (λ k. f (slice_index ds k)) ≡ sum_below n f
thin_sum n f ds order none = sym (thin_total n (λ d k. f d) ds 0 0 (record { order = order; others = λ d k x y out. none d x out }) (omega arith))

map_is : (f : ℕ → ℕ) (us : List ℕ) → map f us ≡ list_below (length us) (λ i. f (slice_index us i))
map_is f [] = refl
map_is f (u ∷ us) = ap (λ (xs : List ℕ). f u ∷ xs) (map_is f us)

-- and so is the nested split over it
thin_split : (n : ℕ) (f : ℕ → ℕ) (ds : List ℕ) (x k : ℕ) → Ascends 0 n ds → ((d : ℕ) → d < n → NotIn ds d → f d ≡ 0) → k < length ds
    → slice_index (nested_split x (list_below (length ds) (λ i. f (slice_index ds i)))) k ≡ slice_index (nested_split x (list_below n f)) (slice_index ds k)
thin_split n f ds x k order none l =
    let all : 0 + n ≡ n = omega arith in
    let t : IsThin n 0 f f ds = thin n 0 n f f ds all order (λ d m. let at : d ≡ 0 + d = omega arith in ap f at) (λ d a b out. none d b out) in
    let place : slice_index ds k - 0 ≡ slice_index ds k = omega arith in
    ap (λ (xs : List ℕ). slice_index (nested_split x xs) k) (sym (map_is f ds))
    ∙ (sym (t.splits x k l) ∙ ap (λ (z : ℕ). slice_index (nested_split x (list_below n f)) z) place)

-- a list in order is no longer than what it is of
few_between : (from before : ℕ) (us : List ℕ) → Ascends from before us → from ≤ before → from + length us ≤ before
few_between from before [] h l = omega (arith, l)
few_between from before (u ∷ us) h l =
    let first : from ≤ u = h.0 in
    let last : u < before = h.1.0 in
    let rest : u + 1 + length us ≤ before = few_between (u + 1) before us h.1.1 (omega arith) in omega (arith, first, rest)

pub ascends_few : (n : ℕ) (us : List ℕ) → Ascends 0 n us → length us ≤ n
ascends_few n us h = omega (arith, few_between 0 n us h (omega arith))

-- ---- the same parts

pub listed_below : (n m : Inputs) (ds : List ℕ) (k : ℕ) → IsThinned n m ds → k < length ds → slice_index ds k < n.shape.destinations
listed_below n m ds k h l = ascends_before 0 n.shape.destinations ds h.order k l

weights_long : (n : Inputs) (d : ℕ) → length n.row ≡ width n.shape → d < n.shape.destinations → length (weights n d) ≡ n.shape.outs
weights_long n d wide l =
    let some : (d + 1) * n.shape.outs ≤ n.shape.destinations * n.shape.outs = mul-le-mul_right n.shape.outs (omega arith) in
    let rest : length (drop (weights_place n.shape d) n.row) ≡ length n.row - weights_place n.shape d = length-drop (weights_place n.shape d) n.row in
    let many : weights_place n.shape d + n.shape.outs - weights_place n.shape d ≡ n.shape.outs = omega arith in
    length-take-le (weights_place n.shape d + n.shape.outs - weights_place n.shape d) (drop (weights_place n.shape d) n.row) (omega (arith, some, rest, wide)) ∙ many

weights_same : (n m : Inputs) (ds : List ℕ) (k : ℕ) → IsThinned n m ds → k < length ds → weights m k ≡ weights n (slice_index ds k)
weights_same n m ds k h l =
    let few : length (weights m k) ≡ m.shape.outs = weights_long m k h.thin (omega (arith, h.destinations, l)) in
    let all : length (weights n (slice_index ds k)) ≡ n.shape.outs = weights_long n (slice_index ds k) h.long (listed_below n m ds k h l) in
    ext_get_or 0 (weights m k) (weights n (slice_index ds k)) (few ∙ (h.outs ∙ sym all)) (λ j x.
    let there : j < m.shape.outs = omega (arith, few, x) in
    let here : j < n.shape.outs = omega (arith, there, h.outs) in
    weight_of m k j there ∙ (h.weight k j l here ∙ sym (weight_of n (slice_index ds k) j here)))

part_same : (n m : Inputs) (ds : List ℕ) (i k j : ℕ) → IsThinned n m ds → i < n.shape.arms → k < length ds → part m i k j ≡ part n i (slice_index ds k) j
part_same n m ds i k j h x l =
    ap (λ (b : Bool). cond b 0 (slice_index (nested_split (sending m i k) (weights m k)) j)) (h.own k l)
    ∙ (ap (λ (z : ℕ). cond (is_own n.shape (slice_index ds k)) 0 (slice_index (nested_split z (weights m k)) j)) (h.sending i k x l)
    ∙ ap (λ (z : List ℕ). cond (is_own n.shape (slice_index ds k)) 0 (slice_index (nested_split (sending n i (slice_index ds k)) z) j)) (weights_same n m ds k h l))

to_sink_same : (n m : Inputs) (ds : List ℕ) (i k : ℕ) → IsThinned n m ds → i < n.shape.arms → k < length ds → to_sink m i k ≡ to_sink n i (slice_index ds k)
to_sink_same n m ds i k h x l =
    ap (λ (b : Bool). cond b (sending m i k) 0) (h.own k l) ∙ ap (λ (z : ℕ). cond (is_own n.shape (slice_index ds k)) z 0) (h.sending i k x l)

-- ---- the same demands

pub sent_same : (n m : Inputs) (ds : List ℕ) (i : ℕ) → IsThinned n m ds → i < n.shape.arms → sent m i ≡ sent n i
sent_same n m ds i h x =
    count_same m.shape.destinations (length ds) (sending m i) (λ k. sending n i (slice_index ds k)) h.destinations (λ k l. h.sending i k x l)
    ∙ thin_sum n.shape.destinations (sending n i) ds h.order (λ d y out. h.others i d x y out)

sent_into_same : (n m : Inputs) (ds : List ℕ) (i j : ℕ) → IsThinned n m ds → i < n.shape.arms → sent_into m i j ≡ sent_into n i j
sent_into_same n m ds i j h x =
    count_same m.shape.destinations (length ds) (λ k. part m i k j) (λ k. part n i (slice_index ds k) j) h.destinations (λ k l. part_same n m ds i k j h x l)
    ∙ thin_sum n.shape.destinations (λ d. part n i d j) ds h.order (λ d y out. part_none n i d j (h.others i d x y out))

pub demands_same : (n m : Inputs) (ds : List ℕ) → IsThinned n m ds → Agrees (demands n) (demands m)
demands_same n m ds h = record {
  arms = h.arms;
  outs = h.outs;
  sending = λ i j x y. sent_into_same n m ds i j h x;
  priority = λ i x. ap (λ (z : ℕ). 1024 * z / sent m i) (h.capacity i x) ∙ ap (λ (z : ℕ). 1024 * capacity n i / z) (sent_same n m ds i h x);
  supply = h.supply;
}

-- ---- the same moves at the same shares

parts_all : (n : Inputs) (i j : ℕ) → parts_into n i j ≡ list_below n.shape.destinations (λ d. part n i d j)
parts_all n i j = list_from n.shape.destinations (λ d. part n i d j) (parts_into n i j) (parts_long n i j) (λ d l. parts_at n i d j l)

parts_listed : (n m : Inputs) (ds : List ℕ) (i j : ℕ) → IsThinned n m ds → i < n.shape.arms → parts_into m i j ≡ list_below (length ds) (λ k. part n i (slice_index ds k) j)
parts_listed n m ds i j h x =
    list_from (length ds) (λ k. part n i (slice_index ds k) j) (parts_into m i j) (parts_long m i j ∙ h.destinations)
    (λ k l. parts_at m i k j (omega (arith, h.destinations, l)) ∙ part_same n m ds i k j h x l)

turn_same : (n m : Inputs) (ds : List ℕ) (e : ℕ) (p : ℕ → ℕ) (i k j : ℕ) → IsThinned n m ds → i < n.shape.arms → k < length ds
    → slice_index (nested_split (turned m e p i j) (parts_into m i j)) k ≡ slice_index (nested_split (turned n e p i j) (parts_into n i j)) (slice_index ds k)
turn_same n m ds e p i k j h x l =
    ap (λ (z : ℕ). slice_index (nested_split (p i * z / e) (parts_into m i j)) k) (sent_into_same n m ds i j h x)
    ∙ (ap (λ (xs : List ℕ). slice_index (nested_split (turned n e p i j) xs) k) (parts_listed n m ds i j h x)
    ∙ (thin_split n.shape.destinations (λ d. part n i d j) ds (turned n e p i j) k h.order (λ d y out. part_none n i d j (h.others i d x y out)) l
    ∙ ap (λ (xs : List ℕ). slice_index (nested_split (turned n e p i j) xs) (slice_index ds k)) (sym (parts_all n i j))))

moved_same : (n m : Inputs) (ds : List ℕ) (e : ℕ) (p : ℕ → ℕ) (i k j : ℕ) → IsThinned n m ds → i < n.shape.arms → k < length ds → moved m e p i k j ≡ moved n e p i (slice_index ds k) j
moved_same n m ds e p i k j h x l =
    ap (λ (b : Bool). cond b (slice_index (nested_split (turned m e p i j) (parts_into m i j)) k) (p i * part m i k j / e)) h.by_turn
    ∙ (ap (λ (z : ℕ). cond n.shape.by_turn z (p i * part m i k j / e)) (turn_same n m ds e p i k j h x l)
    ∙ ap (λ (z : ℕ). cond n.shape.by_turn (slice_index (nested_split (turned n e p i j) (parts_into n i j)) (slice_index ds k)) (p i * z / e)) (part_same n m ds i k j h x l))

sunk_same : (n m : Inputs) (ds : List ℕ) (e : ℕ) (p : ℕ → ℕ) (i k : ℕ) → IsThinned n m ds → i < n.shape.arms → k < length ds → sunk m e p i k ≡ sunk n e p i (slice_index ds k)
sunk_same n m ds e p i k h x l = ap (λ (z : ℕ). p i * z / e) (to_sink_same n m ds i k h x l)

pub gone_same : (n m : Inputs) (ds : List ℕ) (e : ℕ) (p : ℕ → ℕ) (i k : ℕ) → IsThinned n m ds → i < n.shape.arms → k < length ds → gone m e p i k ≡ gone n e p i (slice_index ds k)
gone_same n m ds e p i k h x l =
    let out : sum_below m.shape.outs (λ j. moved m e p i k j) ≡ sum_below n.shape.outs (λ j. moved n e p i (slice_index ds k) j) =
    count_same m.shape.outs n.shape.outs (λ j. moved m e p i k j) (λ j. moved n e p i (slice_index ds k) j) h.outs (λ j y. moved_same n m ds e p i k j h x l) in
    omega (arith, out, sunk_same n m ds e p i k h x l)

pub come_same : (n m : Inputs) (ds : List ℕ) (e : ℕ) (p : ℕ → ℕ) (j k : ℕ) → IsThinned n m ds → k < length ds → come m e p j k ≡ come n e p j (slice_index ds k)
come_same n m ds e p j k h l =
    count_same m.shape.arms n.shape.arms (λ i. moved m e p i k j) (λ i. moved n e p i (slice_index ds k) j) h.arms (λ i x. moved_same n m ds e p i k j h x l)

-- nothing goes to the sink of what is not sent
pub sunk_nothing : (n : Inputs) (e : ℕ) (p : ℕ → ℕ) (i d : ℕ) → sending n i d ≡ 0 → sunk n e p i d ≡ 0
sunk_nothing n e p i d none = nothing_of (p i) e (to_sink n i d) (let most : to_sink n i d ≤ sending n i d = to_sink_le n i d in omega (arith, most, none))

pub sunk_in_all_same : (n m : Inputs) (ds : List ℕ) (e : ℕ) (p : ℕ → ℕ) → IsThinned n m ds → sunk_in_all m e p ≡ sunk_in_all n e p
sunk_in_all_same n m ds e p h =
    count_same m.shape.arms n.shape.arms (λ i. sum_below m.shape.destinations (λ k. sunk m e p i k)) (λ i. sum_below n.shape.destinations (λ d. sunk n e p i d)) h.arms
    (λ i x.
    count_same m.shape.destinations (length ds) (λ k. sunk m e p i k) (λ k. sunk n e p i (slice_index ds k)) h.destinations (λ k l. sunk_same n m ds e p i k h x l)
    ∙ thin_sum n.shape.destinations (λ d. sunk n e p i d) ds h.order (λ d y out. sunk_nothing n e p i d (h.others i d x y out)))
