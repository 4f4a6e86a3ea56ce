use Rattle.std.proofs.Common.{◌≡◌, ℕ, ◌<◌, ◌-◌, slice_index}
use Rattle.ltm_curve.specs.First.{entries, mixed}
use Rattle.ltm_curve.proofs.Mixing.{IsMixing}
use Rattle.ltm_curve.proofs.rows.Rows.write_mixed_less.Given as goal

abbrev pub invariant-loop-destination : goal.invariant-loop-destination
invariant-loop-destination g l =
    IsMixing (entries (g.Self.Rows.width l.self) (g.Self.Rows.rows l.self) l.slot) l.part l.rest l.whole l.destination
    × ((d : ℕ) → d < l.destination → slice_index l.into d ≡ mixed (g.Self.Rows.width l.self) (g.Self.Rows.rows l.self) l.slot l.part d - slice_index l.less d)
