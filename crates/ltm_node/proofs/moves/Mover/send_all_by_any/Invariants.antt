use Rattle.std.proofs.Common.{◌≡◌}
use Rattle.ltm_node.specs.Shape.{sending_place}
use Rattle.ltm_node.specs.Moving.{IsMovingAt}
use Rattle.ltm_node.proofs.moves.Mover.send_all_by_any.Given as goal

abbrev pub invariant-loop-arm : goal.invariant-loop-arm
invariant-loop-arm g l = record {
  moving : IsMovingAt l.self (g.T.Tally.stands l.tally) l.destination l.arm l.row;
  place : l.place ≡ sending_place l.self.shape l.arm l.destination;
}
