use Rattle.std.proofs.Common.{◌≡◌}
use Rattle.ltm_units.specs.Sums.{sum_below}
use Rattle.ltm_node.specs.Narrow.{HaveLeft, leaves, laid}
use Rattle.ltm_node.proofs.narrow.Narrow.write_left.Given as goal

abbrev pub invariant-loop-arm : goal.invariant-loop-arm
invariant-loop-arm l = record {
  left : HaveLeft l.self.inputs.now l.arm (laid l.self.inputs.now.shape l.counts);
  total : l.total ≡ sum_below l.arm (leaves l.self.inputs.now);
}
