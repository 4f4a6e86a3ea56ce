use Rattle.std.proofs.Common.{◌≡◌, ℕ, ◌-◌, ◌<◌, ◌≤◌, slice_index}
use Rattle.ltm_origin.proofs.origin.take_away.Given as goal

abbrev pub invariant-loop-i : goal.invariant-loop-i
invariant-loop-i l = record {
  done : (k : ℕ) → k < l.i → slice_index l.from k ≡ slice_index l.initial.from k - slice_index l.less k;
  rest : (k : ℕ) → l.i ≤ k → slice_index l.from k ≡ slice_index l.initial.from k;
}
