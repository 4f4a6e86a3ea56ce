use Rattle.std.proofs.Common.{◌≡◌, ◌<◌, ◌+◌, ℕ, slice_index}
use Rattle.ltm_check.proofs.rows.grow_by.Given as goal

abbrev pub invariant-loop-destination : goal.invariant-loop-destination
invariant-loop-destination l = (d : ℕ) → d < l.destination → slice_index l.after d ≡ slice_index l.before d + slice_index l.moves d
