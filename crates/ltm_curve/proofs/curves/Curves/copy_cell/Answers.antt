use Rattle.std.proofs.Common.{sym, ◌∙◌}
use Rattle.ltm_curve.proofs.Copying.{row_total}
use Rattle.ltm_curve.proofs.curves.Curves.copy_cell.Goals as goal

pub put_row-requires-clause-total : goal.put_row-requires-clause-total
put_row-requires-clause-total c = c.total-total.ensures.total ∙ sym (row_total c.args.other.now _ c.args.group c.args.boundary c.row-then-self-gt2.ensures.count c.row-then-self-gt2.ensures.counts)
