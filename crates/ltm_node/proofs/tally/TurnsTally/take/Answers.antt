use Rattle.std.proofs.Common.{◌≡◌, ℕ, ◌*◌, ◌/◌, List, get_or, ap, arith, rules, sym, ◌∙◌}
use Rattle.ltm_shares.specs.Sent.{sent_at}
use Rattle.ltm_node.specs.declared.turns.Turns.{Turns}
use Rattle.ltm_node.specs.Demands.{sent_into}
use Rattle.ltm_node.specs.Solvable.{IsSolvable}
use Rattle.ltm_node.specs.Portion.{denominator, numerator, AreFractions}
use Rattle.ltm_node.specs.Step.{parts_into, turned}
use Rattle.ltm_node.proofs.Ranges.{fraction_of_le, sent_into_le, sent_small}
use Rattle.ltm_node.proofs.Moved.{parts_long, parts_at, parts_sum, moved_by_turn}
use Rattle.ltm_node.proofs.Splitting.{weight_within_rest, part_next}
use Rattle.ltm_node.proofs.Tallies.{left_on, left_of_same}
use Rattle.ltm_node.proofs.tally.TurnsTally.take.Goals as goal

pub part_of_turn-moved-requires-clause-left : goal.part_of_turn-moved-requires-clause-left
part_of_turn-moved-requires-clause-left c =
    let n = c.args._mover.now.inputs.now in
    let q = c.args._mover.now.portion in
    let s : IsSolvable n = search rules in
    let fractions : AreFractions n q = search rules in
    let a : ℕ = c.args.part.arm in
    let k : ℕ = c.args.part.out in
    omega (
      arith,
      c.at-left.ensures,
      c.requires.before.split.within,
      fraction_of_le (numerator q a) (denominator q) (sent_into n a k) (fractions.at_most_all a c.requires.part.arm),
      sent_into_le n a k,
      sent_small n a s c.requires.part.arm,
    )

pub part_of_turn-moved-requires-clause-part : goal.part_of_turn-moved-requires-clause-part
part_of_turn-moved-requires-clause-part c =
    let n = c.args._mover.now.inputs.now in
    let q = c.args._mover.now.portion in
    let a : ℕ = c.args.part.arm in
    let b : ℕ = c.args.part.destination in
    let k : ℕ = c.args.part.out in
    omega (
      arith,
      c.at-rest.ensures,
      weight_within_rest (turned n (denominator q) (numerator q) a k) (parts_into n a k) b _ _ c.requires.before.split (omega (arith, parts_long n a k, c.requires.part.destination)),
      parts_at n a b k c.requires.part.destination,
      c.requires.part.amount,
    )

pub part_of_turn-moved-requires-clause-rest : goal.part_of_turn-moved-requires-clause-rest
part_of_turn-moved-requires-clause-rest c =
    let n = c.args._mover.now.inputs.now in
    let s : IsSolvable n = search rules in
    let a : ℕ = c.args.part.arm in
    let k : ℕ = c.args.part.out in
    omega (arith, c.at-rest.ensures, c.requires.before.split.fewer, parts_sum n a k, sent_into_le n a k, sent_small n a s c.requires.part.arm)

pub take-requires-2-clause-within : goal.take-requires-2-clause-within
take-requires-2-clause-within c =
    let n = c.args._mover.now.inputs.now in
    let q = c.args._mover.now.portion in
    let a : ℕ = c.args.part.arm in
    let b : ℕ = c.args.part.destination in
    let k : ℕ = c.args.part.out in
    omega (
      arith,
      weight_within_rest (turned n (denominator q) (numerator q) a k) (parts_into n a k) b _ _ c.requires.before.split (omega (arith, parts_long n a k, c.requires.part.destination)),
      parts_at n a b k c.requires.part.destination,
      c.requires.part.amount,
    )

pub returns-clause-moved : goal.returns-clause-moved
returns-clause-moved c =
    let n = c.args._mover.now.inputs.now in
    let q = c.args._mover.now.portion in
    let e : ℕ = denominator q in
    let p : ℕ → ℕ = numerator q in
    let t : Turns = c.args.self.now in
    let a : ℕ = c.args.part.arm in
    let b : ℕ = c.args.part.destination in
    let k : ℕ = c.args.part.out in
    let xs : List ℕ = parts_into n a k in
    let at : c.args.part.amount ≡ get_or xs b 0 = c.requires.part.amount ∙ sym (parts_at n a b k c.requires.part.destination) in
    let share : c.part_of_turn-moved.result ≡ sent_at t.left a k * get_or xs b 0 / sent_at t.rest a k =
    c.part_of_turn-moved.ensures.part
    ∙ (ap (λ (z : ℕ). z * c.args.part.amount / c.at-rest.result) c.at-left.ensures
    ∙ (ap (λ (z : ℕ). sent_at t.left a k * c.args.part.amount / z) c.at-rest.ensures
    ∙ ap (λ (z : ℕ). sent_at t.left a k * z / sent_at t.rest a k) at)) in
    part_next (turned n e p a k) xs b (sent_at t.left a k) (sent_at t.rest a k) c.part_of_turn-moved.result c.requires.before.split (omega (arith, parts_long n a k, c.requires.part.destination)) share
    ∙ sym (moved_by_turn n e p a b k c.requires.before.by_turn)

pub returns-clause-after : goal.returns-clause-after
returns-clause-after c =
    let n = c.args._mover.now.inputs.now in
    let q = c.args._mover.now.portion in
    let t : Turns = c.args.self.now in
    let a : ℕ = c.args.part.arm in
    let b : ℕ = c.args.part.destination in
    let k : ℕ = c.args.part.out in
    let share : c.part_of_turn-moved.result ≡ sent_at t.left a k * c.args.part.amount / sent_at t.rest a k =
    c.part_of_turn-moved.ensures.part
    ∙ (ap (λ (z : ℕ). z * c.args.part.amount / c.at-rest.result) c.at-left.ensures
    ∙ ap (λ (z : ℕ). sent_at t.left a k * c.args.part.amount / z) c.at-rest.ensures) in
    left_on t _ n q a k b c.part_of_turn-moved.result c.args.part.amount c.requires.part.destination c.requires.part.amount c.requires.before share c.take.ensures.added c.take-2.ensures.added

pub returns-clause-others : goal.returns-clause-others
returns-clause-others c =
    let n = c.args._mover.now.inputs.now in
    let q = c.args._mover.now.portion in
    λ i j d l apart.
    left_of_same c.args.self.now _ n q i j d (c.take.ensures.others i j l apart) (c.take-2.ensures.others i j l apart)
