use Rattle.std.proofs.Common.{arith}
use Rattle.ltm_check.proofs.Reaching.{reach_all, reach_short}
use Rattle.ltm_check.proofs.file.all_read.Goals as goal

pub returns-then-next-record_count-clause-right : goal.returns-then-next-record_count-clause-right
returns-then-next-record_count-clause-right c records done none =
    reach_all c.args.scenario.now records c.args.curves.now c.args.next c.requires.shape (omega (arith, c.if-next-record_count.true, c.record_count.ensures.count)) done none

pub returns-clause-fault : goal.returns-clause-fault
returns-clause-fault c records done none =
    reach_short c.args.scenario.now records c.args.curves.now c.args.next (omega (arith, c.if-next-eq0.false)) (omega (arith, c.if-next-record_count.false, c.requires.next, c.record_count.ensures.count)) done none
