use Rattle.std.proofs.Common.{inl}
use Rattle.ltm_curve.proofs.Cells.{not_changed}
use Rattle.ltm_curve.proofs.changed.Changed.from.Goals as goal

pub returns : goal.returns
returns c = λ g k l. not_changed c.args.self.now g k (λ x m. c.args.self.now.outside g k x m (inl l))
