use Rattle.std.proofs.Common.{◌≡◌, ℕ, ◌%◌, ◌-◌, ◌<◌, ◌≤◌, length, slice_index}
use Rattle.ltm_inputs.proofs.numbers.put_fours.Given as goal

abbrev pub invariant-loop-place : goal.invariant-loop-place
invariant-loop-place l = (l.place % 4 ≡ 0) × ((l.place ≤ length l.numbers) × ((i : ℕ) → i < l.place → slice_index l.into i ≡ slice_index l.numbers i))

abbrev pub decreases-loop-place : goal.decreases-loop-place
decreases-loop-place l = length l.numbers - l.place
