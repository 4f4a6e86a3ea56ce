use Rattle.std.proofs.Common.{arith}
use Rattle.ltm_curve.proofs.Copying.{agrees_all, same_counts}
use Rattle.ltm_curve.proofs.curves.Curves.copy_changed.Goals as goal

pub returns-clause-all : goal.returns-clause-all
returns-clause-all c = same_counts _ _ (agrees_all c.copy_boundary-2.new.self c.args.other.now c.args.changed.now _ c.copy_boundary-2.ensures (omega (arith, c.requires.shape.slots, c.copy_boundary-2.ensures.shape.slots)))
