use Rattle.std.proofs.Common.{◌≡◌, ◌≤◌}
use Rattle.ltm_curve.specs.First.{last_within}
use Rattle.ltm_curve.specs.Table.{total_of}
use Rattle.ltm_sending.proofs.leaving.last_from.Given as goal

abbrev pub invariant-loop-boundary : goal.invariant-loop-boundary
invariant-loop-boundary g l = (l.boundary ≤ l.last) × (last_within (total_of l.curves l.group) l.units l.boundary ≡ last_within (total_of l.curves l.group) l.units l.last)

abbrev pub decreases-loop-boundary : goal.decreases-loop-boundary
decreases-loop-boundary g l = l.boundary
