use Rattle.std.proofs.Common.{◌≡◌, ℕ, ◌<◌, ◌-◌, slice_index}
use Rattle.ltm_curve.proofs.rows.Rows.write_less.Given as goal

abbrev pub invariant-loop-destination : goal.invariant-loop-destination
invariant-loop-destination g l = (d : ℕ) → d < l.destination → slice_index l.into d ≡ g.Self.Rows.rows l.self d l.boundary - slice_index l.less d
