use Rattle.std.proofs.Common.{arith}
use Rattle.ltm_curve.proofs.Totals.{zeros_at, zeros_total}
use Rattle.ltm_curve.proofs.curves.Curves.create.Goals as goal

pub invariant_of-result-clause-small : goal.invariant_of-result-clause-small
invariant_of-result-clause-small c = λ i. omega (arith, zeros_at _ _ c.in_ok-counts.ensures i)

pub invariant_of-result-clause-sums : goal.invariant_of-result-clause-sums
invariant_of-result-clause-sums c = λ several. zeros_total _ _ _ _ _ _ c.in_ok-totals.ensures c.in_ok-counts.ensures
