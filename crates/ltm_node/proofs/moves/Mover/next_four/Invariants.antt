use Rattle.std.proofs.Common.{◌-◌, ◌≤◌}
use Rattle.ltm_node.specs.Moving.{IsSentNothing}
use Rattle.ltm_node.proofs.moves.Mover.next_four.Given as goal

abbrev pub invariant-loop-destination : goal.invariant-loop-destination
invariant-loop-destination l = record {
  behind : l.fn.from ≤ l.destination;
  within : l.destination ≤ l.self.inputs.now.shape.destinations;
  nothing : IsSentNothing l.self.inputs.now l.fn.from l.destination;
}

abbrev pub decreases-loop-destination : goal.decreases-loop-destination
decreases-loop-destination l = l.self.inputs.now.shape.destinations - l.destination
