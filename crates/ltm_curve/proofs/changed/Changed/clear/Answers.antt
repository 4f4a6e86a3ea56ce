use Rattle.std.proofs.Common.{arith, sym}
use Rattle.ltm_curve.proofs.Cells.{none_marked, not_changed}
use Rattle.ltm_curve.proofs.changed.Changed.clear.Goals as goal

pub invariant_of-self-clause-some_boundary : goal.invariant_of-self-clause-some_boundary
invariant_of-self-clause-some_boundary c = omega (arith, c.clear_between.ensures.size.rows, c.args.self.now.some_boundary)

pub invariant_of-self-clause-counted : goal.invariant_of-self-clause-counted
invariant_of-self-clause-counted c =
    sym (none_marked c.clear_between.new.marks (λ p r x l. c.clear_between.ensures.none p r (omega (arith, x, c.clear_between.ensures.size.width)) (omega (arith, l, c.clear_between.ensures.size.rows))))

pub returns-clause-none : goal.returns-clause-none
returns-clause-none c = λ g k. not_changed _ g k (λ x l. c.clear_between.ensures.none g k (omega (arith, x, c.clear_between.ensures.size.width)) (omega (arith, l, c.clear_between.ensures.size.rows)))
