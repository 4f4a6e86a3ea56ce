use Rattle.std.proofs.Common.{slice_index}
use Rattle.ltm_curve.specs.Table.{counts_of, destinations_of}
use Rattle.ltm_inputs.proofs.Filling.{IsFilledTo}
use Rattle.ltm_inputs.proofs.counts.put_groups.Given as goal

abbrev pub invariant-loop-group : goal.invariant-loop-group
invariant-loop-group l = IsFilledTo l.into l.place l.group-index (destinations_of l.curves) (λ i d. counts_of l.curves (slice_index l.groups i) d l.boundary)
