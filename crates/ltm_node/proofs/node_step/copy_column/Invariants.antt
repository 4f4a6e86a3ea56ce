use Rattle.std.proofs.Common.{◌≡◌, ◌≢◌, ℕ, ◌<◌, ◌≤◌}
use Rattle.ltm_shares.specs.Sent.{sent_at}
use Rattle.ltm_node.proofs.node_step.copy_column.Given as goal

abbrev pub invariant-loop-arm : goal.invariant-loop-arm
invariant-loop-arm l = record {
  column : (i : ℕ) → i < l.arm → sent_at l.into i l.next ≡ sent_at l.from i l.out;
  rest : (i : ℕ) → l.arm ≤ i → sent_at l.into i l.next ≡ 0;
  others : (i j : ℕ) → j < 4 → j ≢ l.next → sent_at l.into i j ≡ sent_at l.initial.into i j;
}
