use Rattle.std.proofs.Common.{◌≡◌, ◌≢◌, ℕ, ◌<◌, ◌≤◌}
use Rattle.ltm_shares.specs.Sent.{sent_at}
use Rattle.ltm_node.specs.Portion.{denominator, numerator}
use Rattle.ltm_node.specs.Step.{turned}
use Rattle.ltm_node.proofs.turns.Turns.begin_arm.Given as goal

abbrev pub invariant-loop-out : goal.invariant-loop-out
invariant-loop-out l = record {
  turns : (j : ℕ) → j < l.out → sent_at l.self.left l.arm j ≡ turned l.inputs (denominator l.portion) (numerator l.portion) l.arm j;
  later : (j : ℕ) → l.out ≤ j → j < 4 → sent_at l.self.left l.arm j ≡ 0;
  others : (i j : ℕ) → j < 4 → i ≢ l.arm → sent_at l.self.left i j ≡ sent_at l.initial.self.left i j;
  rest : l.self.rest ≡ l.initial.self.rest;
}
