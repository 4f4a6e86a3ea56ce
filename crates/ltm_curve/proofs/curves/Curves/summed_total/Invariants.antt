use Rattle.std.proofs.Common.{◌≡◌, slice_index}
use Rattle.ltm_units.specs.Sums.{sum_below}
use Rattle.ltm_curve.proofs.curves.Curves.summed_total.Given as goal

abbrev pub invariant-loop-destination : goal.invariant-loop-destination
invariant-loop-destination l = l.total ≡ sum_below l.destination (slice_index l.row)
