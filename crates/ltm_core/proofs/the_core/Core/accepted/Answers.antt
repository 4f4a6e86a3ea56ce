use Rattle.std.proofs.Common.{ap, ◌∙◌}
use Rattle.ltm_core.specs.Log.{batches_of}
use Rattle.ltm_core.specs.Cores.{CoreData}
use Rattle.ltm_core.proofs.the_core.Core.accepted.Goals as goal

pub returns : goal.returns
returns c = c.batches.ensures ∙ ap (λ (z : CoreData). batches_of z.log) c.self.view_is
