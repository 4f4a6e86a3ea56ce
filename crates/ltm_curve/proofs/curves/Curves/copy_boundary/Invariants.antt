use Rattle.std.proofs.Common.{◌-◌}
use Rattle.ltm_curve.specs.Table.{groups_of}
use Rattle.ltm_curve.specs.Copying.{AgreesBut}
use Rattle.ltm_curve.proofs.curves.Curves.copy_boundary.Given as goal

abbrev pub invariant-loop-group : goal.invariant-loop-group
invariant-loop-group l = AgreesBut l.self l.other l.changed l.boundary l.group

abbrev pub decreases-loop-group : goal.decreases-loop-group
decreases-loop-group l = groups_of l.self - l.group
