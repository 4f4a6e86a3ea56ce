use Rattle.std.proofs.Common.{◌≡◌, ℕ, ◌%◌, ◌-◌, ◌<◌, ◌≤◌, length, slice_index}
use Rattle.ltm_rows.proofs.narrow.same_fours.Given as goal

abbrev pub invariant-loop-place : goal.invariant-loop-place
invariant-loop-place l = (l.place % 4 ≡ 0) × ((l.place ≤ length l.numbers) × ((i : ℕ) → i < l.place → slice_index l.numbers i ≡ slice_index l.others i))

abbrev pub decreases-loop-place : goal.decreases-loop-place
decreases-loop-place l = length l.numbers - l.place
