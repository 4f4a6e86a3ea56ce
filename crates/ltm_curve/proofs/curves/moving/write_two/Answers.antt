use Rattle.std.proofs.Common.{length, slice_index, arith}
use Rattle.ltm_curve.proofs.Lists.{two_more}
use Rattle.ltm_curve.proofs.curves.moving.write_two.Goals as goal

pub returns-clause-whole : goal.returns-clause-whole
returns-clause-whole c = two_more (length c.args.amounts.now) (slice_index c.args.amounts.now) (omega (arith, c.if-amounts-eq0.false))
