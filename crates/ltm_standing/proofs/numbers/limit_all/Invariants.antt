use Rattle.std.proofs.Common.{◌≡◌, ℕ, ◌<◌, ◌≤◌, slice_index}
use Rattle.ltm_loading.specs.Flows.{limited}
use Rattle.ltm_standing.proofs.numbers.limit_all.Given as goal

abbrev pub invariant-loop-i : goal.invariant-loop-i
invariant-loop-i l = record {
  done : (k : ℕ) → k < l.i → slice_index l.parts k ≡ limited l.limit l.whole (slice_index l.initial.parts k);
  rest : (k : ℕ) → l.i ≤ k → slice_index l.parts k ≡ slice_index l.initial.parts k;
}
