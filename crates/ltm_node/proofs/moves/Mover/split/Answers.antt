use Rattle.std.proofs.Common.{◌≡◌, ◌≤◌, ◌<◌, ℕ, ◌+◌, ◌-◌, ◌*◌, ◌/◌, ◌∙◌, ap, arith, rules, subst, sym, List, sum, get_or, length, slice_index}
use Rattle.ltm_units.specs.Nested.{nested_split}
use Rattle.ltm_units.proofs.Sums.{sum_below_more}
use Rattle.ltm_node.specs.declared.loads.Part.{Part}
use Rattle.ltm_node.specs.Inputs.{weights}
use Rattle.ltm_node.specs.Solvable.{IsSolvable}
use Rattle.ltm_node.specs.Portion.{denominator, numerator, AreFractions}
use Rattle.ltm_node.specs.Splitting.{IsSplitUpTo}
use Rattle.ltm_node.specs.Step.{moved}
use Rattle.ltm_node.specs.Moving.{IsMoving, IsPart}
use Rattle.ltm_node.proofs.Ranges.{sending_small, weights_fit, part_is}
use Rattle.ltm_node.proofs.Moved.{moved_none, moved_small, moved_out_small}
use Rattle.ltm_node.proofs.Splitting.{out_within, weight_within_rest, part_next, split_next, split_ended, sum_ended}
use Rattle.ltm_node.specs.declared.shape.NodeShape.{NodeShape}
use Rattle.ltm_node.proofs.Amounts.{entered_past, place_on}
use Rattle.ltm_node.proofs.moves.Mover.split.Goals as goal

pub share_of_rest-requires-clause-left : goal.share_of_rest-requires-clause-left
share_of_rest-requires-clause-left g c =
    let n = c.args.self.now.inputs.now in
    let s : IsSolvable n = search rules in
    omega (arith, c.loop-rest.invariant.split.within, c.requires.load.amount, sending_small n c.args.load.arm c.args.load.destination s c.requires.load.arm c.requires.load.destination)

pub share_of_rest-requires-clause-weight : goal.share_of_rest-requires-clause-weight
share_of_rest-requires-clause-weight g c =
    let ws : List ℕ = weights c.args.self.now.inputs.now c.args.load.destination in
    let split : IsSplitUpTo c.args.load.amount ws c.loop-rest.out c.loop-rest.left c.loop-rest.rest = c.loop-rest.invariant.split in
    omega (
      arith,
      weight_within_rest c.args.load.amount ws c.loop-rest.out c.loop-rest.left c.loop-rest.rest split (out_within c.args.load.amount ws c.loop-rest.out c.loop-rest.left c.loop-rest.rest split c.loop-rest-test.true),
      ap (λ (zs : List ℕ). get_or zs c.loop-rest.out 0) c.weights-weights.ensures.weights,
    )

pub share_of_rest-requires-clause-rest : goal.share_of_rest-requires-clause-rest
share_of_rest-requires-clause-rest g c =
    let n = c.args.self.now.inputs.now in
    let s : IsSolvable n = search rules in
    omega (
      arith,
      c.loop-rest.invariant.split.fewer,
      ap sum c.weights-weights.ensures.weights,
      weights_fit n c.args.load.destination c.weights-weights.result.now s.few_outs (λ k l. s.weights c.args.load.destination k c.requires.load.destination l) c.weights-weights.ensures.weights c.weights-weights.ensures.outs,
    )

pub overflow_sub-rest : goal.overflow_sub-rest
overflow_sub-rest g c =
    let ws : List ℕ = weights c.args.self.now.inputs.now c.args.load.destination in
    let split : IsSplitUpTo c.args.load.amount ws c.loop-rest.out c.loop-rest.left c.loop-rest.rest = c.loop-rest.invariant.split in
    omega (
      arith,
      weight_within_rest c.args.load.amount ws c.loop-rest.out c.loop-rest.left c.loop-rest.rest split (out_within c.args.load.amount ws c.loop-rest.out c.loop-rest.left c.loop-rest.rest split c.loop-rest-test.true),
      ap (λ (zs : List ℕ). get_or zs c.loop-rest.out 0) c.weights-weights.ensures.weights,
    )

pub enter-total-requires-clause-part : goal.enter-total-requires-clause-part
enter-total-requires-clause-part g c =
    let n = c.args.self.now.inputs.now in
    let a : ℕ = c.args.load.arm in
    let b : ℕ = c.args.load.destination in
    let k : ℕ = c.loop-rest.out in
    let ws : List ℕ = weights n b in
    let split : IsSplitUpTo c.args.load.amount ws k c.loop-rest.left c.loop-rest.rest = c.loop-rest.invariant.split in
    let inside : k < length ws = out_within c.args.load.amount ws k c.loop-rest.left c.loop-rest.rest split c.loop-rest-test.true in
    let weight : get_or c.weights-weights.result.now k 0 ≡ get_or ws k 0 = ap (λ (zs : List ℕ). get_or zs k 0) c.weights-weights.ensures.weights in
    let share : c.share_of_rest.result ≡ c.loop-rest.left * get_or ws k 0 / c.loop-rest.rest = c.share_of_rest.ensures.part ∙ ap (λ z. c.loop-rest.left * z / c.loop-rest.rest) weight in
    let part : c.share_of_rest.result ≡ slice_index (nested_split c.args.load.amount ws) k = part_next c.args.load.amount ws k c.loop-rest.left c.loop-rest.rest c.share_of_rest.result split inside share in
    subst (IsPart n) (sym c.by-part.ensures) (record {
      arm = c.requires.load.arm;
      destination = c.requires.load.destination;
      out = omega (arith, inside, ap length c.weights-weights.ensures.weights, c.weights-weights.ensures.outs);
      amount = part_is n c.args.load.amount a b k c.share_of_rest.result c.requires.elsewhere c.requires.load.amount part;
    })

pub overflow_add-total : goal.overflow_add-total
overflow_add-total g c =
    let n = c.args.self.now.inputs.now in
    let e : ℕ = denominator c.args.self.now.portion in
    let p : ℕ → ℕ = numerator c.args.self.now.portion in
    let s : IsSolvable n = search rules in
    let fractions : AreFractions n c.args.self.now.portion = search rules in
    let a : ℕ = c.args.load.arm in
    let b : ℕ = c.args.load.destination in
    let k : ℕ = c.loop-rest.out in
    let f : p a ≤ e = fractions.at_most_all a c.requires.load.arm in
    let share : c.enter-total.result ≡ moved n e p a b k = c.enter-total.ensures.moved ∙ ap (λ (q : Part). moved n e p q.arm q.destination q.out) c.by-part.ensures in
    let small : moved n e p a b k ≤ 32000 = moved_small n e p a b k s f c.requires.load.arm c.requires.load.destination in
    omega (arith, c.loop-rest.invariant.total, moved_out_small n e p a b k s f c.requires.load.arm c.requires.load.destination, c.loop-rest.invariant.within, s.few_outs)

pub loop-rest-preserved : goal.loop-rest-preserved
loop-rest-preserved g c =
    let n = c.args.self.now.inputs.now in
    let q = c.args.self.now.portion in
    let e : ℕ = denominator c.args.self.now.portion in
    let p : ℕ → ℕ = numerator c.args.self.now.portion in
    let a : ℕ = c.args.load.arm in
    let b : ℕ = c.args.load.destination in
    let k : ℕ = c.loop-rest.out in
    let ws : List ℕ = weights n b in
    let split : IsSplitUpTo c.args.load.amount ws k c.loop-rest.left c.loop-rest.rest = c.loop-rest.invariant.split in
    let inside : k < length ws = out_within c.args.load.amount ws k c.loop-rest.left c.loop-rest.rest split c.loop-rest-test.true in
    let weight : get_or c.weights-weights.result.now k 0 ≡ get_or ws k 0 = ap (λ (zs : List ℕ). get_or zs k 0) c.weights-weights.ensures.weights in
    let v : ℕ = c.by-part.result.amount in
    let share : v ≡ c.loop-rest.left * get_or ws k 0 / c.loop-rest.rest =
    ap (λ (q : Part). q.amount) c.by-part.ensures ∙ (c.share_of_rest.ensures.part ∙ ap (λ z. c.loop-rest.left * z / c.loop-rest.rest) weight) in
    let next : c.enter-total.result ≡ moved n e p a b k = c.enter-total.ensures.moved ∙ ap (λ (q : Part). moved n e p q.arm q.destination q.out) c.by-part.ensures in
    record {
      within = omega (arith, inside, ap length c.weights-weights.ensures.weights, c.weights-weights.ensures.outs);
      split = subst (λ (z : ℕ). IsSplitUpTo c.args.load.amount ws (k + 1) (c.loop-rest.left - v) (c.loop-rest.rest - z)) (sym weight) (split_next c.args.load.amount ws k c.loop-rest.left c.loop-rest.rest v split inside share);
      place =
          let same : c.args.self.now.shape ≡ n.shape = search rules in
          omega (arith, c.loop-rest.invariant.place, ap (λ (z : NodeShape). z.destinations) same, place_on n.shape k b);
      total = omega (arith, c.loop-rest.invariant.total, sum_below_more (λ j. moved n e p a b j) k);
      moving = subst (λ (r : Part). IsMoving n e p (g.T.Tally.stands c.enter-total.new.tally n q) r.destination r.arm (r.out + 1) c.enter-total.new.row) c.by-part.ensures c.enter-total.ensures.after;
    }

pub leave-requires-clause-total : goal.leave-requires-clause-total
leave-requires-clause-total g c =
    let n = c.args.self.now.inputs.now in
    let e : ℕ = denominator c.args.self.now.portion in
    let p : ℕ → ℕ = numerator c.args.self.now.portion in
    let a : ℕ = c.args.load.arm in
    let b : ℕ = c.args.load.destination in
    let k : ℕ = c.loop-rest.out in
    let none : c.loop-rest.rest ≡ 0 = omega (arith, c.loop-rest-test.false) in
    c.loop-rest.invariant.total
    ∙ sym (sum_ended n.shape.outs k (λ j. moved n e p a b j) c.loop-rest.invariant.within (λ j more _.
    moved_none n e p a b j (sym (part_is n c.args.load.amount a b j 0 c.requires.elsewhere c.requires.load.amount (sym (split_ended c.args.load.amount (weights n b) k c.loop-rest.left c.loop-rest.rest j c.loop-rest.invariant.split none more))))))

pub leave-requires-clause-before : goal.leave-requires-clause-before
leave-requires-clause-before g c =
    let n = c.args.self.now.inputs.now in
    let q = c.args.self.now.portion in
    let e : ℕ = denominator c.args.self.now.portion in
    let p : ℕ → ℕ = numerator c.args.self.now.portion in
    let s : IsSolvable n = search rules in
    let a : ℕ = c.args.load.arm in
    let b : ℕ = c.args.load.destination in
    let k : ℕ = c.loop-rest.out in
    let none : c.loop-rest.rest ≡ 0 = omega (arith, c.loop-rest-test.false) in
    entered_past n e p (g.T.Tally.stands c.loop-rest.tally n q) b a k n.shape.outs c.loop-rest.row s (c.passes.ensures c.loop-rest.tally n q) c.loop-rest.invariant.moving c.requires.load.destination c.loop-rest.invariant.within (omega arith) (λ j more _.
    sym (part_is n c.args.load.amount a b j 0 c.requires.elsewhere c.requires.load.amount (sym (split_ended c.args.load.amount (weights n b) k c.loop-rest.left c.loop-rest.rest j c.loop-rest.invariant.split none more))))
