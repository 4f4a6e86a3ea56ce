use Rattle.std.proofs.Common.{◌^◌, length, slice_index, arith}
use Rattle.ltm_units.proofs.Sums.{sum_below-most}
use Rattle.ltm_curve.proofs.curves.moving.write_last.Goals as goal

pub overflow_add-result : goal.overflow_add-result
overflow_add-result c =
    omega (
      arith,
      c.write_two-two_differ.ensures.whole,
      c.write_odd-odd_differs.ensures.whole,
      c.requires.few,
      sum_below-most (length c.args.amounts.now) (slice_index c.args.amounts.now) (2 ^ 31) (λ k l. omega (arith, c.requires.small k l)),
    )
