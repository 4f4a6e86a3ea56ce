use Rattle.std.proofs.Common.{◌≡◌, ℕ, ◌<◌, ◌≤◌}
use Rattle.ltm_shares.specs.Sent.{sent_at}
use Rattle.ltm_node.specs.Portion.{denominator, numerator}
use Rattle.ltm_node.specs.Step.{turned}
use Rattle.ltm_node.proofs.turns.Turns.begin.Given as goal

abbrev pub invariant-loop-arm : goal.invariant-loop-arm
invariant-loop-arm l = record {
  begun : (i j : ℕ) → i < l.arm → j < l.inputs.shape.outs → sent_at l.turns.left i j ≡ turned l.inputs (denominator l.portion) (numerator l.portion) i j;
  later : (i j : ℕ) → l.arm ≤ i → j < 4 → sent_at l.turns.left i j ≡ 0;
  rest : l.turns.rest ≡ l.initial.turns.rest;
}
