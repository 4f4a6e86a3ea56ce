use Rattle.std.proofs.Common.{arith, sym, ◌∙◌}
use Rattle.ltm_curve.specs.Table.{total_of}
use Rattle.ltm_sending.proofs.Lasts.{step_down, ends_here}
use Rattle.ltm_sending.proofs.leaving.last_from.Goals as goal

pub loop-boundary-preserved : goal.loop-boundary-preserved
loop-boundary-preserved g c = (
  omega (arith, c.loop-boundary.invariant.0),
  step_down (total_of c.args.curves.now c.args.group) c.args.units c.loop-boundary.boundary c.args.last (omega (arith, c.loop-boundary-test.true)) (omega (arith, c.if-total-units.true, c.total.ensures.total)) c.loop-boundary.invariant.1,
)

pub returns-else-total-units-clause-last : goal.returns-else-total-units-clause-last
returns-else-total-units-clause-last g c =
    sym (ends_here (total_of c.args.curves.now c.args.group) c.args.units c.loop-boundary.boundary (omega (arith, c.if-total-units.false, c.total.ensures.total))) ∙ c.loop-boundary.invariant.1
