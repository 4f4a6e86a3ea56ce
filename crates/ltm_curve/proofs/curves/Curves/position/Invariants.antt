use Rattle.std.proofs.Common.{◌≡◌, ◌≤◌}
use Rattle.ltm_curve.specs.First.{last_within}
use Rattle.ltm_curve.specs.Table.{total_of}
use Rattle.ltm_curve.proofs.curves.Curves.position.Given as goal

abbrev pub invariant-loop-boundary : goal.invariant-loop-boundary
invariant-loop-boundary l = (l.boundary ≤ l.last) × (last_within (total_of l.self l.group) l.n l.boundary ≡ last_within (total_of l.self l.group) l.n l.last)

abbrev pub decreases-loop-boundary : goal.decreases-loop-boundary
decreases-loop-boundary l = l.boundary
