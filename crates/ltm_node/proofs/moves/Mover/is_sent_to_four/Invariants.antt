use Rattle.std.proofs.Common.{◌≡◌, ℕ, ◌+◌, ◌<◌, ◌≤◌}
use Rattle.ltm_node.specs.Shape.{sending_place}
use Rattle.ltm_node.specs.Inputs.{sending}
use Rattle.ltm_node.proofs.moves.Mover.is_sent_to_four.Given as goal

abbrev pub invariant-loop-arm : goal.invariant-loop-arm
invariant-loop-arm l = record {
  within : (i d : ℕ) → i < l.arm → l.destination ≤ d → d < l.destination + 4 → sending l.self.inputs.now i d ≤ l.any;
  place : l.place ≡ sending_place l.self.shape l.arm l.destination;
}
