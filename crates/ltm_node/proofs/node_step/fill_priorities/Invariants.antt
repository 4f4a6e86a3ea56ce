use Rattle.std.proofs.Common.{◌≡◌, ℕ, ◌<◌, slice_index}
use Rattle.ltm_node.specs.Moving.{priority_or_more}
use Rattle.ltm_node.proofs.node_step.fill_priorities.Given as goal

abbrev pub invariant-loop-arm : goal.invariant-loop-arm
invariant-loop-arm l = record {
  arms : l.into.arms ≡ l.fn.into.arms;
  outs : l.into.outs ≡ l.fn.into.outs;
  sending : l.into.sending ≡ l.fn.into.sending;
  priority : (i : ℕ) → i < l.arm → slice_index l.into.priority i ≡ priority_or_more l.inputs i;
}
