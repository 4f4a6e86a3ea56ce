use Rattle.std.proofs.Common.{◌+◌, ◌-◌, ◌/◌, arith}
use Rattle.ltm_curve.specs.TotalCurves.{total_slots, total_at}
use Rattle.ltm_curve.proofs.Interpolation.{rises_le}
use Rattle.ltm_times.proofs.boundaries.first_boundary.Goals as goal

pub loop-low-preserved-then-total-count : goal.loop-low-preserved-then-total-count
loop-low-preserved-then-total-count c = record {
  order = omega arith;
  within = omega arith;
  reached = c.loop-low.invariant.reached;
  before = λ k l. omega (
    arith,
    rises_le (total_at c.args.curves.now c.args.group) (total_slots c.args.curves.now) c.requires.rises k (c.loop-low.low + (c.loop-low.high - c.loop-low.low) / 2) (omega arith) (omega arith),
    c.total.ensures.total,
    c.if-total-count.true,
  );
}
