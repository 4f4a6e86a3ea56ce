use Rattle.std.proofs.Common.{◌≡◌, ◌-◌, ◌≤◌}
use Rattle.ltm_units.specs.Sums.{sum_below}
use Rattle.ltm_node.specs.Inputs.{weights}
use Rattle.ltm_node.specs.Outputs.{entered_after_place}
use Rattle.ltm_node.specs.Splitting.{IsSplitUpTo}
use Rattle.ltm_node.specs.Moving.{IsMovingBy, moved_by}
use Rattle.ltm_node.proofs.moves.Mover.split.Given as goal

abbrev pub invariant-loop-rest : goal.invariant-loop-rest
invariant-loop-rest g l = record {
  within : l.out ≤ l.self.inputs.now.shape.outs;
  split : IsSplitUpTo l.load.amount (weights l.self.inputs.now l.load.destination) l.out l.left l.rest;
  place : l.place ≡ entered_after_place l.self.inputs.now.shape l.out l.load.destination;
  total : l.total ≡ sum_below l.out (moved_by l.self l.load.arm l.load.destination);
  moving : IsMovingBy l.self (g.T.Tally.stands l.tally) l.load.destination l.load.arm l.out l.row;
}

abbrev pub decreases-loop-rest : goal.decreases-loop-rest
decreases-loop-rest g l = l.self.inputs.now.shape.outs - l.out
