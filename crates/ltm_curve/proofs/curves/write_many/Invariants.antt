use Rattle.std.proofs.Common.{◌≡◌, ℕ, ◌<◌, slice_index}
use Rattle.ltm_curve.proofs.curves.write_many.Given as goal

abbrev pub invariant-loop-destination : goal.invariant-loop-destination
invariant-loop-destination l = (d : ℕ) → d < l.destination → slice_index l.into d ≡ slice_index l.counts d
