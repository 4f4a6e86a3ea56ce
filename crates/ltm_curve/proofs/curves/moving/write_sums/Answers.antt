use Rattle.std.proofs.Common.{ℕ, ◌+◌, ◌^◌, length, slice_index, arith, ap, ◌∙◌}
use Rattle.ltm_units.proofs.Sums.{sum_below-most}
use Rattle.ltm_curve.proofs.Lists.{sum_below-list}
use Rattle.ltm_curve.proofs.curves.moving.write_sums.Goals as goal

pub overflow_add-result : goal.overflow_add-result
overflow_add-result c =
    omega (
      arith,
      c.write_fours-fours_differ.ensures.whole,
      c.write_last-last_differ.ensures.whole,
      c.requires.few,
      sum_below-most (length c.args.amounts.now) (slice_index c.args.amounts.now) (2 ^ 31) (λ k l. omega (arith, c.requires.small k l)),
    )

pub returns-clause-whole : goal.returns-clause-whole
returns-clause-whole c =
    ap (λ (z : ℕ). z + c.write_last-last_differ.result.1) c.write_fours-fours_differ.ensures.whole ∙ (c.write_last-last_differ.ensures.whole ∙ sum_below-list c.args.amounts.now)
