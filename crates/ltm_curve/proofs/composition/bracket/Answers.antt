use Rattle.std.proofs.Common.{arith}
use Rattle.ltm_curve.proofs.Lasts.{above_from}
use Rattle.ltm_curve.proofs.composition.bracket.Goals as goal

pub loop-low-preserved : goal.loop-low-preserved
loop-low-preserved g c = (
  omega arith,
  omega arith,
  λ j x y. above_from (g.R.Rows.width c.args.rows.now) (g.R.Rows.rows c.args.rows.now) c.args.last c.args.n c.loop-low.low c.requires.part.rise (omega arith) j (omega arith) y,
  omega arith,
)
