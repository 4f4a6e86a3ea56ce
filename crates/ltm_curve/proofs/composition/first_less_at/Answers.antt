use Rattle.std.proofs.Common.{arith}
use Rattle.ltm_curve.proofs.Firsts.{part_inside}
use Rattle.ltm_curve.proofs.composition.first_less_at.Goals as goal

pub write_mixed_less-requires-clause-part : goal.write_mixed_less-requires-clause-part
write_mixed_less-requires-clause-part g c =
    let within = part_inside (g.R.Rows.width c.args.rows.now) (g.R.Rows.rows c.args.rows.now) c.args.n c.args.last c.args.end c.requires.part c.requires.end (omega (arith, c.total.ensures)) in
    omega (arith, within, c.total.ensures)
