use Rattle.std.proofs.Common.{ℕ, ◌*◌, ◌/◌, ◌≤◌, ap, arith, rules}
use Rattle.ltm_units.proofs.Sums.{sum_below_more}
use Rattle.ltm_node.specs.Solvable.{IsSolvable}
use Rattle.ltm_node.specs.Portion.{denominator, numerator, AreFractions}
use Rattle.ltm_node.specs.Step.{moved}
use Rattle.ltm_node.proofs.Ranges.{part_small, fraction_of_le}
use Rattle.ltm_node.proofs.Moved.{sent_by_small}
use Rattle.ltm_node.proofs.tally.SentTally.take.Goals as goal

pub of-moved-requires-clause-amount : goal.of-moved-requires-clause-amount
of-moved-requires-clause-amount c =
    let n = c.args.mover.now.inputs.now in
    let s : IsSolvable n = search rules in
    omega (arith, c.requires.part.amount, part_small n c.args.part.arm c.args.part.destination c.args.part.out s c.requires.part.arm c.requires.part.destination)

pub add-requires-clause-fits : goal.add-requires-clause-fits
add-requires-clause-fits c =
    let n = c.args.mover.now.inputs.now in
    let q = c.args.mover.now.portion in
    let e : ℕ = denominator q in
    let p : ℕ → ℕ = numerator q in
    let s : IsSolvable n = search rules in
    let fractions : AreFractions n q = search rules in
    let a : ℕ = c.args.part.arm in
    let b : ℕ = c.args.part.destination in
    let k : ℕ = c.args.part.out in
    let f : p a ≤ e = fractions.at_most_all a c.requires.part.arm in
    omega (
      arith,
      c.requires.before.total,
      sent_by_small n e p a k b s f c.requires.part.arm (omega (arith, c.requires.part.destination)),
      c.of-moved.ensures,
      fraction_of_le (p a) e c.args.part.amount f,
      c.requires.part.amount,
      part_small n a b k s c.requires.part.arm c.requires.part.destination,
      c.requires.part.destination,
      s.few_destinations,
    )

pub returns-clause-after : goal.returns-clause-after
returns-clause-after c =
    let n = c.args.mover.now.inputs.now in
    let q = c.args.mover.now.portion in
    let e : ℕ = denominator q in
    let p : ℕ → ℕ = numerator q in
    let a : ℕ = c.args.part.arm in
    let b : ℕ = c.args.part.destination in
    let k : ℕ = c.args.part.out in
    record {
      by_part = c.requires.before.by_part;
      total =
          omega (
            arith,
            c.add.ensures.added,
            c.requires.before.total,
            sum_below_more (λ d. moved n e p a d k) b,
            c.requires.before.by_part a b k c.requires.part.destination,
            c.of-moved.ensures,
            ap (λ (z : ℕ). p a * z / e) c.requires.part.amount,
          );
    }
