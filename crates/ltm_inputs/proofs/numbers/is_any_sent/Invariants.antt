use Rattle.std.proofs.Common.{◌≡◌, ℕ, ◌-◌, ◌<◌, ◌≤◌, length, slice_index}
use Rattle.ltm_inputs.proofs.numbers.is_any_sent.Given as goal

abbrev pub invariant-loop-place : goal.invariant-loop-place
invariant-loop-place l = (l.place ≤ length l.amounts) × ((k : ℕ) → k < l.place → slice_index l.amounts k ≡ 0)

abbrev pub decreases-loop-place : goal.decreases-loop-place
decreases-loop-place l = length l.amounts - l.place
