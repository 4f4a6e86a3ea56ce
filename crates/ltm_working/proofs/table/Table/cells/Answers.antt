use Rattle.std.proofs.Common.{sym}
use Rattle.ltm_curve.specs.Cells.{is_changed}
use Rattle.ltm_working.specs.Desks.{changed_at}
use Rattle.ltm_working.proofs.ChangedCells.{cell_of}
use Rattle.ltm_working.proofs.table.Table.cells.Goals as goal

pub returns-clause-changed : goal.returns-clause-changed
unfolding changed_at
returns-clause-changed c = λ s g k x l. sym (cell_of s (is_changed c.args.self.now.changed) g k x l)
