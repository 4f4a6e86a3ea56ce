use Rattle.std.proofs.Common.{◌≡◌, ◌<◌, ◌≤◌, ◌*◌, ℕ, slice_index}
use Rattle.ltm_shares.proofs.rounds.scale.Given as goal

abbrev pub invariant-loop-arm : goal.invariant-loop-arm
invariant-loop-arm l = record {
  denominator : l.progress.denominator ≡ l.initial.progress.denominator;
  pending : l.progress.pending ≡ l.initial.progress.pending;
  left : l.progress.left ≡ l.initial.progress.left;
  done : (i : ℕ) → i < l.arm → slice_index l.progress.numerators i ≡ slice_index l.initial.progress.numerators i * l.by;
  rest : (i : ℕ) → l.arm ≤ i → slice_index l.progress.numerators i ≡ slice_index l.initial.progress.numerators i;
}

abbrev pub invariant-loop-out : goal.invariant-loop-out
invariant-loop-out l = record {
  denominator : l.progress.denominator ≡ l.initial.progress.denominator;
  pending : l.progress.pending ≡ l.initial.progress.pending;
  numerators : l.progress.numerators ≡ l.initial.progress.numerators;
  done : (i : ℕ) → i < l.out → slice_index l.progress.left i ≡ slice_index l.initial.progress.left i * l.by;
  rest : (i : ℕ) → l.out ≤ i → slice_index l.progress.left i ≡ slice_index l.initial.progress.left i;
}
