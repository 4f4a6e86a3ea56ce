-- What moves does not depend on the counts, and inputs where nothing has been counted can be solved where the others can.
use Rattle.std.proofs.Common.{◌≡◌, ℕ, ◌+◌, ◌-◌, ◌*◌, ◌/◌, ◌<◌, cond, false, List, drop, length, slice_index, arith, refl, ap, sym, ◌∙◌}
use Rattle.std.proofs.Math.Logic.{∥∥₁_map}
use Rattle.std.proofs.lemmas.List.{ext_get_or, length-take, length-drop}
use Rattle.ltm_units.specs.Sums.{sum_below}
use Rattle.ltm_units.specs.Nested.{nested_split}
use Rattle.ltm_units.proofs.Sums.{sum_below-same}
use Rattle.ltm_node.specs.declared.shape.NodeShape.{NodeShape}
use Rattle.ltm_node.specs.Shape.{width, is_own, weights_place}
use Rattle.ltm_node.specs.Inputs.{Inputs, sending, capacity, weights}
use Rattle.ltm_node.specs.Demands.{part, to_sink, sent, sent_into, demands}
use Rattle.ltm_node.specs.Step.{parts_into, turned, moved, sunk, gone, come, sunk_in_all, StepShares}
use Rattle.ltm_node.specs.Solvable.{IsSolvable}
use Rattle.ltm_node.specs.Moving.{Agrees}
use Rattle.ltm_node.specs.Laws.{IsUncounted, MovesAdd}
use Rattle.ltm_node.specs.Uncounted.{uncounted}
use Rattle.ltm_node.proofs.AsRead.{width_as, sending_as, supply_as, capacity_as, weight_as, left_as, entered_as, arrived_as}
use Rattle.ltm_node.proofs.Demanded.{shares_agree}
use Rattle.ltm_node.proofs.Ranges.{weight_of}
use Rattle.ltm_node.proofs.Moved.{parts_long, parts_at}

-- a sum of as many terms
count_same : (a b : ℕ) (f g : ℕ → ℕ) → a ≡ b → ((k : ℕ) → k < b → f k ≡ g k) → sum_below a f ≡ sum_below b g
count_same a b f g e same = ap (λ (z : ℕ). sum_below z f) e ∙ sum_below-same b f g same

-- the weights are the same
weights_long : (n m : Inputs) (d : ℕ) → IsUncounted n m → length (weights m d) ≡ length (weights n d)
weights_long n m d h =
    let place : weights_place m.shape d ≡ weights_place n.shape d = ap (λ (z : NodeShape). weights_place z d) h.shape in
    let outs : m.shape.outs ≡ n.shape.outs = ap (λ (z : NodeShape). z.outs) h.shape in
    omega (
      arith,
      length-take (weights_place m.shape d + m.shape.outs - weights_place m.shape d) (drop (weights_place m.shape d) m.row),
      length-take (weights_place n.shape d + n.shape.outs - weights_place n.shape d) (drop (weights_place n.shape d) n.row),
      length-drop (weights_place m.shape d) m.row,
      length-drop (weights_place n.shape d) n.row,
      h.width,
    )

weights_few : (n : Inputs) (d k : ℕ) → k < length (weights n d) → k < n.shape.outs
weights_few n d k l = omega (arith, length-take (weights_place n.shape d + n.shape.outs - weights_place n.shape d) (drop (weights_place n.shape d) n.row))

weights_same : (n m : Inputs) (d : ℕ) → IsUncounted n m → d < n.shape.destinations → weights m d ≡ weights n d
weights_same n m d h x =
    let outs : m.shape.outs ≡ n.shape.outs = ap (λ (z : NodeShape). z.outs) h.shape in
    ext_get_or 0 (weights m d) (weights n d) (weights_long n m d h) (λ k l.
    let few : k < m.shape.outs = weights_few m d k (omega (arith, weights_long n m d h, l)) in
    weight_of m d k few ∙ (h.weight d k x (omega arith) ∙ sym (weight_of n d k (omega arith))))

-- so are the parts of what the arms send
part_same : (n m : Inputs) (i d j : ℕ) → IsUncounted n m → i < n.shape.arms → d < n.shape.destinations → part m i d j ≡ part n i d j
part_same n m i d j h l x =
    ap (λ (z : NodeShape). cond (is_own z d) 0 (slice_index (nested_split (sending m i d) (weights m d)) j)) h.shape
    ∙ (ap (λ (z : ℕ). cond (is_own n.shape d) 0 (slice_index (nested_split z (weights m d)) j)) (h.sending i d l x)
    ∙ ap (λ (z : List ℕ). cond (is_own n.shape d) 0 (slice_index (nested_split (sending n i d) z) j)) (weights_same n m d h x))

to_sink_same : (n m : Inputs) (i d : ℕ) → IsUncounted n m → i < n.shape.arms → d < n.shape.destinations → to_sink m i d ≡ to_sink n i d
to_sink_same n m i d h l x =
    ap (λ (z : NodeShape). cond (is_own z d) (sending m i d) 0) h.shape ∙ ap (λ (z : ℕ). cond (is_own n.shape d) z 0) (h.sending i d l x)

-- so are the demands
sent_same : (n m : Inputs) (i : ℕ) → IsUncounted n m → i < n.shape.arms → sent m i ≡ sent n i
sent_same n m i h l = count_same m.shape.destinations n.shape.destinations (sending m i) (sending n i) (ap (λ (z : NodeShape). z.destinations) h.shape) (λ d x. h.sending i d l x)

sent_into_same : (n m : Inputs) (i j : ℕ) → IsUncounted n m → i < n.shape.arms → sent_into m i j ≡ sent_into n i j
sent_into_same n m i j h l =
    count_same m.shape.destinations n.shape.destinations (λ d. part m i d j) (λ d. part n i d j) (ap (λ (z : NodeShape). z.destinations) h.shape) (λ d x. part_same n m i d j h l x)

demands_same : (n m : Inputs) → IsUncounted n m → Agrees (demands n) (demands m)
demands_same n m h = record {
  arms = ap (λ (z : NodeShape). z.arms) h.shape;
  outs = ap (λ (z : NodeShape). z.outs) h.shape;
  sending = λ i j l x. sent_into_same n m i j h l;
  priority = λ i l. ap (λ (z : ℕ). 1024 * z / sent m i) (h.capacity i l) ∙ ap (λ (z : ℕ). 1024 * capacity n i / z) (sent_same n m i h l);
  supply = h.supply;
}

-- so is what moves at the same shares
parts_same : (n m : Inputs) (i j : ℕ) → IsUncounted n m → i < n.shape.arms → parts_into m i j ≡ parts_into n i j
parts_same n m i j h l =
    let many : m.shape.destinations ≡ n.shape.destinations = ap (λ (z : NodeShape). z.destinations) h.shape in
    ext_get_or 0 (parts_into m i j) (parts_into n i j) (parts_long m i j ∙ (many ∙ sym (parts_long n i j))) (λ d x.
    let few : d < m.shape.destinations = omega (arith, parts_long m i j) in
    parts_at m i d j few ∙ (part_same n m i d j h l (omega arith) ∙ sym (parts_at n i d j (omega arith))))

turned_same : (n m : Inputs) (e : ℕ) (p : ℕ → ℕ) (i j : ℕ) → IsUncounted n m → i < n.shape.arms → turned m e p i j ≡ turned n e p i j
turned_same n m e p i j h l = ap (λ (z : ℕ). p i * z / e) (sent_into_same n m i j h l)

moved_same : (n m : Inputs) (e : ℕ) (p : ℕ → ℕ) (i d j : ℕ) → IsUncounted n m → i < n.shape.arms → d < n.shape.destinations → moved m e p i d j ≡ moved n e p i d j
moved_same n m e p i d j h l x =
    ap (λ (z : NodeShape). cond z.by_turn (slice_index (nested_split (turned m e p i j) (parts_into m i j)) d) (p i * part m i d j / e)) h.shape
    ∙ (ap (λ (z : ℕ). cond n.shape.by_turn (slice_index (nested_split z (parts_into m i j)) d) (p i * part m i d j / e)) (turned_same n m e p i j h l)
    ∙ (ap (λ (z : List ℕ). cond n.shape.by_turn (slice_index (nested_split (turned n e p i j) z) d) (p i * part m i d j / e)) (parts_same n m i j h l)
    ∙ ap (λ (z : ℕ). cond n.shape.by_turn (slice_index (nested_split (turned n e p i j) (parts_into n i j)) d) (p i * z / e)) (part_same n m i d j h l x)))

sunk_same : (n m : Inputs) (e : ℕ) (p : ℕ → ℕ) (i d : ℕ) → IsUncounted n m → i < n.shape.arms → d < n.shape.destinations → sunk m e p i d ≡ sunk n e p i d
sunk_same n m e p i d h l x = ap (λ (z : ℕ). p i * z / e) (to_sink_same n m i d h l x)

gone_same : (n m : Inputs) (e : ℕ) (p : ℕ → ℕ) (i d : ℕ) → IsUncounted n m → i < n.shape.arms → d < n.shape.destinations → gone m e p i d ≡ gone n e p i d
gone_same n m e p i d h l x =
    let out : sum_below m.shape.outs (λ j. moved m e p i d j) ≡ sum_below n.shape.outs (λ j. moved n e p i d j) =
    count_same m.shape.outs n.shape.outs (λ j. moved m e p i d j) (λ j. moved n e p i d j) (ap (λ (z : NodeShape). z.outs) h.shape) (λ j y. moved_same n m e p i d j h l x) in
    omega (arith, sunk_same n m e p i d h l x)

come_same : (n m : Inputs) (e : ℕ) (p : ℕ → ℕ) (j d : ℕ) → IsUncounted n m → d < n.shape.destinations → come m e p j d ≡ come n e p j d
come_same n m e p j d h x =
    count_same m.shape.arms n.shape.arms (λ i. moved m e p i d j) (λ i. moved n e p i d j) (ap (λ (z : NodeShape). z.arms) h.shape) (λ i l. moved_same n m e p i d j h l x)

sunk_in_all_same : (n m : Inputs) (e : ℕ) (p : ℕ → ℕ) → IsUncounted n m → sunk_in_all m e p ≡ sunk_in_all n e p
sunk_in_all_same n m e p h =
    count_same m.shape.arms n.shape.arms (λ i. sum_below m.shape.destinations (λ d. sunk m e p i d)) (λ i. sum_below n.shape.destinations (λ d. sunk n e p i d)) (ap (λ (z : NodeShape). z.arms) h.shape)
    (λ i l. count_same m.shape.destinations n.shape.destinations (λ d. sunk m e p i d) (λ d. sunk n e p i d) (ap (λ (z : NodeShape). z.destinations) h.shape) (λ d x. sunk_same n m e p i d h l x))

pub moves_add_holds : MovesAdd
moves_add_holds n m moves o h step on =
    ∥∥₁_map step (λ (x : StepShares m moves).
    let arms : m.shape.arms ≡ n.shape.arms = ap (λ (z : NodeShape). z.arms) h.shape in
    let outs : m.shape.outs ≡ n.shape.outs = ap (λ (z : NodeShape). z.outs) h.shape in
    let many : m.shape.destinations ≡ n.shape.destinations = ap (λ (z : NodeShape). z.destinations) h.shape in
    record {
      denominator = x.denominator;
      numerators = x.numerators;
      shares = shares_agree (demands n) (demands m) x.denominator x.numerators (demands_same n m h) x.shares;
      moves = record {
        shape = on.shape;
        width = on.width;
        left = λ i d l y. omega (arith, on.left i d l y, x.moves.left i d (omega arith) (omega arith), h.left i d l y, gone_same n m x.denominator x.numerators i d h l y);
        entered = λ j d l y. omega (arith, on.entered j d l y, x.moves.entered j d (omega arith) (omega arith), h.entered j d l y, come_same n m x.denominator x.numerators j d h y);
        arrived = omega (arith, on.arrived, x.moves.arrived, h.arrived, sunk_in_all_same n m x.denominator x.numerators h);
      };
    })

pub uncounted_solvable : (n m : Inputs) → IsUncounted n m → IsSolvable n → IsSolvable m
uncounted_solvable n m h s =
    let arms : m.shape.arms ≡ n.shape.arms = ap (λ (z : NodeShape). z.arms) h.shape in
    let outs : m.shape.outs ≡ n.shape.outs = ap (λ (z : NodeShape). z.outs) h.shape in
    let many : m.shape.destinations ≡ n.shape.destinations = ap (λ (z : NodeShape). z.destinations) h.shape in
    record {
      few_arms = omega (arith, s.few_arms);
      few_outs = omega (arith, s.few_outs);
      few_destinations = omega (arith, s.few_destinations);
      some_capacity = λ i l. omega (arith, h.capacity i (omega arith), s.some_capacity i (omega arith));
      capacities = λ i l. omega (arith, h.capacity i (omega arith), s.capacities i (omega arith));
      within_capacity = λ i l. omega (arith, h.capacity i (omega arith), sent_same n m i h (omega arith), s.within_capacity i (omega arith));
      supplies = λ j l. omega (arith, h.supply j (omega arith), s.supplies j (omega arith));
      weights = λ d j l x. omega (arith, h.weight d j (omega arith) (omega arith), s.weights d j (omega arith) (omega arith));
      left_counts = λ i d l x. omega (arith, h.left i d (omega arith) (omega arith));
      entered_counts = λ j d l x. omega (arith, h.entered j d (omega arith) (omega arith));
      arrived_count = omega (arith, h.arrived);
    }

-- inputs where nothing has been counted are such
pub uncounted_is : (n : Inputs) → length n.row ≡ width n.shape → IsUncounted n (uncounted n)
uncounted_is n long = record {
  shape = refl;
  width = width_as false n.shape n.row long;
  sending = λ i d l x. sending_as false n i d long l x;
  supply = λ j l. supply_as false n j long;
  capacity = λ i l. capacity_as false n i long;
  weight = λ d j x l. weight_as false n d j long;
  left = λ i d l x. left_as false n i d long l x;
  entered = λ j d l x. entered_as false n j d long l x;
  arrived = arrived_as false n long;
}
