use Rattle.std.proofs.Common.{sym, ◌∙◌}
use Rattle.ltm_curve.proofs.Cells.{of_cell}
use Rattle.ltm_curve.proofs.changed.Changed.has.Goals as goal

pub returns : goal.returns
returns c = c.is_marked.ensures ∙ sym (of_cell c.args.self.now c.args.group c.args.boundary c.requires)
