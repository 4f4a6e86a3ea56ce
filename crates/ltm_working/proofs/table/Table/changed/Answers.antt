use Rattle.std.proofs.Common.{◌∙◌}
use Rattle.ltm_working.proofs.Counting.{cells_are}
use Rattle.ltm_working.proofs.table.Table.changed.Goals as goal

pub returns : goal.returns
returns c = λ s ready. c.count.ensures ∙ cells_are s c.args.self.now ready
