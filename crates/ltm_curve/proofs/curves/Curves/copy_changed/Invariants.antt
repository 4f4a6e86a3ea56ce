use Rattle.ltm_curve.specs.Copying.{AgreesBut}
use Rattle.ltm_curve.proofs.curves.Curves.copy_changed.Given as goal

abbrev pub invariant-loop-boundary : goal.invariant-loop-boundary
invariant-loop-boundary l = AgreesBut l.self l.other l.changed l.boundary 0
