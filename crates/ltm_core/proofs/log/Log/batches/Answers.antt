use Rattle.std.proofs.Common.{ap, sym, ◌∙◌}
use Rattle.ltm_core.specs.Log.{KeptLog, batches_of}
use Rattle.ltm_core.proofs.Logs.{kept_batches}
use Rattle.ltm_core.proofs.log.Log.batches.Goals as goal

pub returns : goal.returns
returns c =
    c.deref.ensures.value
    ∙ (sym (kept_batches c.self.inside.opening c.self.inside.batches.items c.self.inside.marks.items c.self.invariant) ∙ ap (λ (z : KeptLog). batches_of z.log) c.self.view_is)
