use Rattle.std.proofs.Common.{◌≡◌, ℕ, ◌<◌}
use Rattle.ltm_node.specs.Shape.{sending_place}
use Rattle.ltm_node.specs.Inputs.{sending}
use Rattle.ltm_node.proofs.moves.Mover.is_sent_to.Given as goal

abbrev pub invariant-loop-arm : goal.invariant-loop-arm
invariant-loop-arm l = record {
  none : (i : ℕ) → i < l.arm → sending l.self.inputs.now i l.destination ≡ 0;
  place : l.place ≡ sending_place l.self.shape l.arm l.destination;
}
