use Rattle.std.proofs.Common.{arith, sym}
use Rattle.ltm_curve.proofs.Cells.{none_marked, not_changed}
use Rattle.ltm_curve.proofs.changed.Changed.create.Goals as goal

pub invariant_of-result-clause-some_boundary : goal.invariant_of-result-clause-some_boundary
invariant_of-result-clause-some_boundary c = omega (arith, c.in_ok-marks.ensures.rows)

pub invariant_of-result-clause-counted : goal.invariant_of-result-clause-counted
invariant_of-result-clause-counted c = sym (none_marked c.in_ok-marks.marks (λ p r x l. c.in_ok-marks.ensures.none p r))

pub returns-clause-none : goal.returns-clause-none
returns-clause-none c = λ g k. not_changed _ g k (λ x l. c.in_ok-marks.ensures.none g k)
