use Rattle.std.proofs.Common.{◌≡◌, ℕ, ◌+◌, ◌%◌, ◌^◌, ◌<◌, ◌≤◌, slice_index}
use Rattle.ltm_units.specs.Nested.{nested_split}
use Rattle.ltm_curve.proofs.Mixing.{IsMixing}
use Rattle.ltm_standing.proofs.numbers.add_split.Given as goal

abbrev pub invariant-loop-i : goal.invariant-loop-i
invariant-loop-i l = record {
  mixing : IsMixing l.row l.part l.rest l.whole l.i;
  few : l.rest ≤ l.part;
  done : (k : ℕ) → k < l.i → slice_index l.numbers k ≡ (slice_index l.initial.numbers k + slice_index (nested_split l.part l.row) k) % 2 ^ 32;
  rest : (k : ℕ) → l.i ≤ k → slice_index l.numbers k ≡ slice_index l.initial.numbers k;
}
