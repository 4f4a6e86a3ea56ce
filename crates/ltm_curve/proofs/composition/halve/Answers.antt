use Rattle.std.proofs.Common.{◌-◌, ◌/◌, arith}
use Rattle.ltm_curve.proofs.Lasts.{above_from}
use Rattle.ltm_curve.proofs.composition.halve.Goals as goal

pub loop-low-preserved : goal.loop-low-preserved
loop-low-preserved g c = (
  omega arith,
  omega arith,
  λ j x y. above_from (g.R.Rows.width c.args.rows.now) (g.R.Rows.rows c.args.rows.now) c.args.to c.args.n (c.loop-low.high - (c.loop-low.high - c.loop-low.low) / 2) c.requires.rise (omega arith) j (omega arith) y,
  omega arith,
)
