use Rattle.std.proofs.Common.{◌≡◌, ℕ, ◌+◌, ◌-◌, ◌%◌, ◌^◌, ◌<◌, ◌≤◌, slice_index}
use Rattle.ltm_standing.proofs.numbers.take_all.Given as goal

abbrev pub invariant-loop-i : goal.invariant-loop-i
invariant-loop-i l = record {
  done : (k : ℕ) → k < l.i → slice_index l.numbers k ≡ (slice_index l.initial.numbers k + (2 ^ 32 - slice_index l.less k)) % 2 ^ 32;
  rest : (k : ℕ) → l.i ≤ k → slice_index l.numbers k ≡ slice_index l.initial.numbers k;
}
