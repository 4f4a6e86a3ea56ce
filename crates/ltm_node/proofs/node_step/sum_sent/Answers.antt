use Rattle.std.proofs.Common.{arith}
use Rattle.ltm_units.proofs.Sums.{sum_below_more_le}
use Rattle.ltm_node.specs.Inputs.{sending}
use Rattle.ltm_node.proofs.Ranges.{sent_small}
use Rattle.ltm_node.proofs.node_step.sum_sent.Goals as goal

pub overflow_add-total : goal.overflow_add-total
overflow_add-total c =
    let n = c.args.inputs.now in
    omega (
      arith,
      c.loop-destination.invariant,
      c.sending-total.ensures,
      sum_below_more_le n.shape.destinations (sending n c.args.arm) c.loop-destination.destination (omega (arith, c.loop-destination-test.true, c.destinations-destination-end.ensures)),
      sent_small n c.args.arm c.requires.solvable c.requires.arm,
    )
