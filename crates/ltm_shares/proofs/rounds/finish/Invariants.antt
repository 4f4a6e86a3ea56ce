use Rattle.std.proofs.Common.{◌≡◌, ◌<◌, ℕ, slice_index}
use Rattle.ltm_shares.proofs.rounds.finish.Given as goal

abbrev pub invariant-loop-arm : goal.invariant-loop-arm
invariant-loop-arm l = record {
  denominator : l.progress.denominator ≡ l.initial.progress.denominator;
  pending : l.progress.pending ≡ l.initial.progress.pending;
  done : (i : ℕ) → i < l.arm → 0 < slice_index l.initial.progress.pending i → slice_index l.progress.numerators i ≡ l.initial.progress.denominator;
  kept : (i : ℕ) → slice_index l.initial.progress.pending i ≡ 0 → slice_index l.progress.numerators i ≡ slice_index l.initial.progress.numerators i;
}
