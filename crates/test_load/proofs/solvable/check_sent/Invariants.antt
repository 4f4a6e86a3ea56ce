use Rattle.std.proofs.Common.{◌≡◌}
use Rattle.ltm_units.specs.Sums.{sum_below}
use Rattle.ltm_node.specs.Inputs.{sending}
use Rattle.test_load.proofs.solvable.check_sent.Given as goal

abbrev pub invariant-loop-destination : goal.invariant-loop-destination
invariant-loop-destination g l = l.total ≡ sum_below l.destination (λ d. sending l.inputs l.arm d)
