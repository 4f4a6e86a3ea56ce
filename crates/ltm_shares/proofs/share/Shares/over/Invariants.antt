use Rattle.std.proofs.Common.{◌≡◌, ◌<◌, ◌≤◌, ℕ, length, slice_index}
use Rattle.ltm_shares.specs.Factors.{factor}
use Rattle.ltm_shares.proofs.share.Shares.over.Given as goal

abbrev pub invariant-loop-arm : goal.invariant-loop-arm
invariant-loop-arm l = record {
  five : length l.factors ≡ 5;
  done : (i : ℕ) → i < l.arm → slice_index l.numerators i ≤ l.denominator → slice_index l.factors i ≡ factor (slice_index l.numerators i) l.denominator;
}
