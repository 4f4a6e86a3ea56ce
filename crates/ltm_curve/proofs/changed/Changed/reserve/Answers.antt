use Rattle.std.proofs.Common.{ap, ◌-◌}
use Rattle.ltm_curve.proofs.Cells.{same_cells}
use Rattle.ltm_curve.proofs.changed.Changed.reserve.Goals as goal

pub returns-clause-same : goal.returns-clause-same
returns-clause-same c = record {
  shape = record { same_groups = c.reserve.ensures.same.width; same_slots = ap (λ z. z - 1) c.reserve.ensures.same.rows };
  cells = λ g k. same_cells c.args.self.now _ g k c.reserve.ensures.same.width c.reserve.ensures.same.rows (c.reserve.ensures.same.marks g k);
}
