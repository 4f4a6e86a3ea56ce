use Rattle.std.proofs.Common.{◌≡◌, ℕ, ◌<◌, ◌-◌, slice_index}
use Rattle.ltm_curve.specs.Table.{counts_of, destinations_of}
use Rattle.ltm_curve.specs.First.{entries, mixed}
use Rattle.ltm_curve.proofs.Mixing.{IsMixing}
use Rattle.ltm_curve.proofs.group.GroupRows.write_mixed_less.Given as goal

abbrev pub invariant-loop-destination : goal.invariant-loop-destination
invariant-loop-destination l =
    IsMixing (entries (destinations_of l.self.curves.now) (counts_of l.self.curves.now l.self.group) l.slot) l.part l.rest l.whole l.destination
    × ((d : ℕ) → d < l.destination → slice_index l.into d ≡ mixed (destinations_of l.self.curves.now) (counts_of l.self.curves.now l.self.group) l.slot l.part d - slice_index l.less d)
