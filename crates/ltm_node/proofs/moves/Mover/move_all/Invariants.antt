use Rattle.std.proofs.Common.{◌-◌, ◌≤◌}
use Rattle.ltm_node.specs.Moving.{HaveMovedTo}
use Rattle.ltm_node.proofs.moves.Mover.move_all.Given as goal

abbrev pub invariant-loop-destination : goal.invariant-loop-destination
invariant-loop-destination g l = record {
  within : l.destination ≤ l.self.inputs.now.shape.destinations;
  moved : HaveMovedTo l.self (g.T.Tally.stands l.tally) l.destination l.row;
}

abbrev pub decreases-loop-destination : goal.decreases-loop-destination
decreases-loop-destination g l = l.self.inputs.now.shape.destinations - l.destination
