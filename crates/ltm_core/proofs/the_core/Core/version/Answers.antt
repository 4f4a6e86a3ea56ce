use Rattle.std.proofs.Common.{ap, ◌∙◌}
use Rattle.ltm_core.specs.Log.{version_now}
use Rattle.ltm_core.specs.Cores.{CoreData}
use Rattle.ltm_core.proofs.the_core.Core.version.Goals as goal

pub returns-clause-version : goal.returns-clause-version
returns-clause-version c = c.version.ensures.version ∙ ap (λ (z : CoreData). version_now z.log) c.self.view_is
