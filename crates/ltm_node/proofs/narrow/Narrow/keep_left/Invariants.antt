use Rattle.ltm_node.specs.Narrow.{HaveLeft, laid}
use Rattle.ltm_node.proofs.narrow.Narrow.keep_left.Given as goal

abbrev pub invariant-loop-arm : goal.invariant-loop-arm
invariant-loop-arm l = HaveLeft l.self.inputs.now l.arm (laid l.self.inputs.now.shape l.counts)
