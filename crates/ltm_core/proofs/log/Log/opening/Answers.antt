use Rattle.std.proofs.Common.{ap, sym, ◌∙◌}
use Rattle.ltm_core.specs.Log.{KeptLog}
use Rattle.ltm_core.proofs.Logs.{kept_opening}
use Rattle.ltm_core.proofs.log.Log.opening.Goals as goal

pub returns : goal.returns
returns c = sym (kept_opening c.self.inside.opening c.self.inside.batches.items c.self.inside.marks.items) ∙ ap (λ (z : KeptLog). z.log.opening) c.self.view_is
