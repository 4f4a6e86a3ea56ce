use Rattle.ltm_curve.specs.TotalCurves.{TotalsBefore}
use Rattle.ltm_curve.proofs.total_curves.TotalCurves.copy_all.Given as goal

abbrev pub invariant-loop-boundary : goal.invariant-loop-boundary
invariant-loop-boundary l = TotalsBefore l.self l.curves l.boundary
