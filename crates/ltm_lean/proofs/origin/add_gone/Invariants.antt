use Rattle.std.proofs.Common.{◌≡◌, ℕ, ◌+◌, ◌-◌, ◌^◌, ◌<◌, ◌≤◌, min, slice_index}
use Rattle.ltm_units.specs.Sums.{sum_below}
use Rattle.ltm_lean.proofs.origin.add_gone.Given as goal

abbrev pub invariant-loop-k : goal.invariant-loop-k
invariant-loop-k l = record {
  done : (k : ℕ) → k < l.k → slice_index l.gone k ≡ min (2 ^ 32 - 1) (slice_index l.initial.gone k + slice_index l.moved k);
  rest : (k : ℕ) → l.k ≤ k → slice_index l.gone k ≡ slice_index l.initial.gone k;
  added : l.all ≡ min (2 ^ 64 - 1) (sum_below l.k (slice_index l.moved));
}
