use Rattle.std.proofs.Common.{arith, length-drop}
use Rattle.ltm_io.proofs.WritesInARow.{two_writes}
use Rattle.ltm_io.proofs.sink.write_all_known.Goals as goal

pub loop-at-preserved : goal.loop-at-preserved
loop-at-preserved g c =
    let inv = c.loop-at.invariant in
    let e = c.in_ok-taken.ensures in (
      omega (arith, e.count, length-drop c.loop-at.at c.args.bytes.now),
      rw (e.took, inv.1) (two_writes (g.W.Sink.written c.args.sink.now) c.args.bytes.now c.loop-at.at c.in_ok-taken.taken),
      omega (arith, e.later, inv.2),
    )
