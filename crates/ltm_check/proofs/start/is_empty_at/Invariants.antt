use Rattle.std.proofs.Common.{◌≡◌, ◌<◌, ℕ, slice_index}
use Rattle.ltm_check.proofs.start.is_empty_at.Given as goal

abbrev pub invariant-loop-destination : goal.invariant-loop-destination
invariant-loop-destination l = (d : ℕ) → d < l.destination → slice_index l.row d ≡ 0
