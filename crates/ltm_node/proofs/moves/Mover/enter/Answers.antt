use Rattle.std.proofs.Common.{◌≡◌, ◌≤◌, ℕ, ◌+◌, ap, arith, rules, subst, sym, slice_index}
use Rattle.ltm_node.specs.Outputs.{entered_after_place}
use Rattle.ltm_node.specs.Demands.{part}
use Rattle.ltm_node.specs.Solvable.{IsSolvable}
use Rattle.ltm_node.specs.Portion.{denominator, numerator, AreFractions}
use Rattle.ltm_node.specs.Step.{moved}
use Rattle.ltm_node.proofs.Moved.{moved_none, moved_small}
use Rattle.ltm_node.proofs.Room.{entered_room}
use Rattle.ltm_node.proofs.Amounts.{row_added, entered_low, entered_on, entered_past}
use Rattle.ltm_node.proofs.moves.Mover.enter.Goals as goal

pub returns-then-part-eq0 : goal.returns-then-part-eq0
returns-then-part-eq0 g c =
    let n = c.args.self.now.inputs.now in
    let q = c.args.self.now.portion in
    let e : ℕ = denominator q in
    let p : ℕ → ℕ = numerator q in
    let s : IsSolvable n = search rules in
    let a : ℕ = c.args.part.arm in
    let b : ℕ = c.args.part.destination in
    let k : ℕ = c.args.part.out in
    let none : part n a b k ≡ 0 = omega (arith, c.requires.part.amount, c.if-part-eq0.true) in
    record {
      moved = sym (moved_none n e p a b k none);
      after = entered_past n e p (g.T.Tally.stands c.args.tally.now n q) b a k (k + 1) c.args.row.now s (c.passes.ensures c.args.tally.now n q) c.requires.before c.requires.part.destination (omega arith) (omega (arith, c.requires.part.out))
          (λ j more less. let same : k ≡ j = omega arith in subst (λ (z : ℕ). part n a b z ≡ 0) same none);
    }

pub bounds-row-place : goal.bounds-row-place
bounds-row-place g c =
    let n = c.args.self.now.inputs.now in
    omega (arith, c.requires.place, c.requires.before.width, entered_low n c.args.part.out c.args.part.destination c.requires.part.out c.requires.part.destination)

pub bounds-row-place-2 : goal.bounds-row-place-2
bounds-row-place-2 g c =
    let n = c.args.self.now.inputs.now in
    omega (arith, c.requires.place, c.requires.before.width, entered_low n c.args.part.out c.args.part.destination c.requires.part.out c.requires.part.destination)

pub overflow_add-row : goal.overflow_add-row
overflow_add-row g c =
    let n = c.args.self.now.inputs.now in
    let q = c.args.self.now.portion in
    let e : ℕ = denominator q in
    let p : ℕ → ℕ = numerator q in
    let s : IsSolvable n = search rules in
    let f : AreFractions n q = search rules in
    let a : ℕ = c.args.part.arm in
    let b : ℕ = c.args.part.destination in
    let k : ℕ = c.args.part.out in
    let small : moved n e p a b k ≤ 32000 = moved_small n e p a b k s (f.at_most_all a c.requires.part.arm) c.requires.part.arm c.requires.part.destination in
    let place : c.args.place ≡ entered_after_place n.shape k b = c.requires.place in
    omega (
      arith,
      entered_room n e p (g.T.Tally.stands c.args.tally.now n q) b a k c.take-moved.result c.args.row.now s f.at_most_all c.requires.before c.requires.part.arm c.requires.part.destination c.requires.part.out (omega (arith, c.take-moved.ensures.moved)),
      ap (slice_index c.args.row.now) place,
    )

pub returns-clause-after : goal.returns-clause-after
returns-clause-after g c =
    let n = c.args.self.now.inputs.now in
    let q = c.args.self.now.portion in
    let e : ℕ = denominator q in
    let p : ℕ → ℕ = numerator q in
    let s : IsSolvable n = search rules in
    let a : ℕ = c.args.part.arm in
    let b : ℕ = c.args.part.destination in
    let k : ℕ = c.args.part.out in
    let place : c.args.place ≡ entered_after_place n.shape k b = c.requires.place in
    entered_on n e p (g.T.Tally.stands c.args.tally.now n q) (g.T.Tally.stands c.take-moved.new.self n q) b a k c.take-moved.result c.args.row.now _ s c.requires.before c.requires.part.arm c.requires.part.destination c.requires.part.out c.take-moved.ensures.moved
    (row_added c.args.row.now c.args.place _ c.take-moved.result place) c.take-moved.ensures.after c.take-moved.ensures.others
