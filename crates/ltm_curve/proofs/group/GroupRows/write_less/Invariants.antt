use Rattle.std.proofs.Common.{◌≡◌, ℕ, ◌<◌, ◌-◌, slice_index}
use Rattle.ltm_curve.specs.Table.{counts_of}
use Rattle.ltm_curve.proofs.group.GroupRows.write_less.Given as goal

abbrev pub invariant-loop-destination : goal.invariant-loop-destination
invariant-loop-destination l = (d : ℕ) → d < l.destination → slice_index l.into d ≡ counts_of l.self.curves.now l.self.group d l.boundary - slice_index l.less d
