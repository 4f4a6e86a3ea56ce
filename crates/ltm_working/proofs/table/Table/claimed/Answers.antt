use Rattle.std.proofs.Common.{◌∙◌}
use Rattle.ltm_working.proofs.Counting.{claimed_are}
use Rattle.ltm_working.proofs.table.Table.claimed.Goals as goal

pub returns : goal.returns
returns c = λ s ready. c.claimed.ensures.count ∙ claimed_are s c.args.self.now ready
