use Rattle.std.proofs.Common.{◌^◌, length, slice_index, arith}
use Rattle.ltm_units.proofs.Sums.{sum_below-most}
use Rattle.ltm_curve.proofs.Lists.{sum_below-list}
use Rattle.ltm_curve.proofs.curves.adding.add_many.Goals as goal

pub overflow_add-result : goal.overflow_add-result
overflow_add-result c =
    omega (
      arith,
      c.add_fours-fours.ensures.whole,
      c.add_pair-pair.ensures.whole,
      c.add_odd-odd.ensures.whole,
      c.requires.few,
      sum_below-most (length c.args.amounts.now) (slice_index c.args.amounts.now) (2 ^ 31) (λ k l. omega (arith, c.requires.small k l)),
    )

pub overflow_add-result-2 : goal.overflow_add-result-2
overflow_add-result-2 c =
    omega (
      arith,
      c.add_fours-fours.ensures.whole,
      c.add_pair-pair.ensures.whole,
      c.add_odd-odd.ensures.whole,
      c.requires.few,
      sum_below-most (length c.args.amounts.now) (slice_index c.args.amounts.now) (2 ^ 31) (λ k l. omega (arith, c.requires.small k l)),
    )

pub returns-clause-whole : goal.returns-clause-whole
returns-clause-whole c =
    omega (
      arith,
      c.add_fours-fours.ensures.whole,
      c.add_pair-pair.ensures.whole,
      c.add_odd-odd.ensures.whole,
      sum_below-list c.args.amounts.now,
    )
