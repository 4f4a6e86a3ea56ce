use Rattle.std.proofs.Common.{◌≡◌, ◌<◌, ◌≤◌, ◌*◌, ◌+◌, ℕ, slice_index}
use Rattle.ltm_shares.specs.Sent.{sent_at}
use Rattle.ltm_shares.proofs.rounds.fix.Given as goal

abbrev pub invariant-loop-out : goal.invariant-loop-out
invariant-loop-out l = record {
  denominator : l.progress.denominator ≡ l.initial.progress.denominator;
  numerators : l.progress.numerators ≡ l.initial.progress.numerators;
  pending : l.progress.pending ≡ l.initial.progress.pending;
  taken : (j : ℕ) → j < l.out → slice_index l.progress.left j + l.share * sent_at l.demands.sending l.arm j ≡ slice_index l.initial.progress.left j;
  rest : (j : ℕ) → l.out ≤ j → slice_index l.progress.left j ≡ slice_index l.initial.progress.left j;
}
