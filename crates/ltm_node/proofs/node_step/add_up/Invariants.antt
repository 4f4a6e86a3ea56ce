use Rattle.std.proofs.Common.{slice_index}
use Rattle.ltm_node.specs.Moving.{AreTotalsOf}
use Rattle.ltm_node.proofs.node_step.add_up.Given as goal

abbrev pub invariant-loop-arm : goal.invariant-loop-arm
invariant-loop-arm l = AreTotalsOf l.inputs l.sent l.arm (slice_index l.totals)
