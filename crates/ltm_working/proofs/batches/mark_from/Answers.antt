use Rattle.std.proofs.Common.{arith}
use Rattle.ltm_working.proofs.Activating.{slots_none, slots_more, slots_all}
use Rattle.ltm_working.proofs.batches.mark_from.Goals as goal

pub loop-node-init : goal.loop-node-init
loop-node-init c = slots_none c.args.frontier.now c.args.from

pub loop-node-preserved : goal.loop-node-preserved
loop-node-preserved c =
    slots_more c.args.frontier.now c.loop-node.frontier c.mark_range.new.self c.loop-node.node c.args.from c.slot_count-to.result
    (omega (arith, c.requires.slots, c.slot_count-to.ensures.value)) c.loop-node.invariant c.mark_range.ensures

pub returns : goal.returns
returns c =
    slots_all c.args.frontier.now c.loop-node.frontier c.loop-node.node c.args.from
    (omega (arith, c.loop-node-test.false, c.loop-node.auto.node-end, c.node_count-node-end.ensures.value, c.requires.nodes)) c.loop-node.invariant
