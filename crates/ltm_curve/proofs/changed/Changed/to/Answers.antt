use Rattle.std.proofs.Common.{inr}
use Rattle.ltm_curve.proofs.Cells.{not_changed}
use Rattle.ltm_curve.proofs.changed.Changed.to.Goals as goal

pub returns-clause-none : goal.returns-clause-none
returns-clause-none c = λ g k l. not_changed c.args.self.now g k (λ x m. c.args.self.now.outside g k x m (inr l))
