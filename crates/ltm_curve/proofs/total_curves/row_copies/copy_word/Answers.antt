use Rattle.std.proofs.Common.{◌+◌, ◌≤◌, length, arith}
use Rattle.std.proofs.Math.Nat.{mul-le-mul_right}
use Rattle.ltm_curve.proofs.total_curves.row_copies.copy_word.Goals as goal

pub total-requires : goal.total-requires
total-requires c =
    let in_row : c.args.first + c.in-Some.bit + 1 ≤ length c.args.into.now = omega (arith, c.if-group-into.false, c.loop-from.invariant.1.0) in
    omega (arith, mul-le-mul_right c.args.totals.now.each in_row, c.requires.enough)
