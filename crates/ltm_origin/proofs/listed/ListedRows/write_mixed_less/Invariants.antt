use Rattle.std.proofs.Common.{◌≡◌, ℕ, ◌<◌, ◌-◌, length, slice_index}
use Rattle.ltm_curve.specs.First.{entries, mixed}
use Rattle.ltm_curve.proofs.Mixing.{IsMixing}
use Rattle.ltm_origin.proofs.Produced.{listed}
use Rattle.ltm_origin.proofs.listed.ListedRows.write_mixed_less.Given as goal

abbrev pub invariant-loop-place : goal.invariant-loop-place
invariant-loop-place l =
    IsMixing (entries (length l.self.list.now) (listed l.self.scenario.now l.self.node.0 l.self.list.now) l.slot) l.part l.rest l.whole l.place
    × ((d : ℕ) → d < l.place → slice_index l.into d ≡ mixed (length l.self.list.now) (listed l.self.scenario.now l.self.node.0 l.self.list.now) l.slot l.part d - slice_index l.less d)
