use Rattle.ltm_curve.specs.TotalCurves.{TotalsBut}
use Rattle.ltm_curve.proofs.total_curves.TotalCurves.copy_changed.Given as goal

abbrev pub invariant-loop-boundary : goal.invariant-loop-boundary
invariant-loop-boundary l = TotalsBut l.self l.curves l.changed l.boundary
