use Rattle.std.proofs.Common.{length, min, slice_index, ap, sym, arith}
use Rattle.ltm_units.proofs.Sums.{sum_below-zero}
use Rattle.ltm_lean.proofs.origin.add_gone.Goals as goal

pub returns-then-are_zero-clause-all : goal.returns-then-are_zero-clause-all
returns-then-are_zero-clause-all c =
    sym (ap (min 18446744073709551615) (sum_below-zero (length c.args.gone.now) (slice_index c.args.moved.now) (λ k l. c.are_zero.ensures c.if-are_zero.true k (omega (arith, l, c.requires)))))
