use Rattle.std.proofs.Common.{◌≡◌, ap, ◌∙◌, arith}
use Rattle.ltm_core.specs.Log.{KeptLog, log_of, version_now}
use Rattle.ltm_core.proofs.Logs.{kept_version}
use Rattle.ltm_core.proofs.log.Log.version.Goals as goal

pub returns-clause-version : goal.returns-clause-version
returns-clause-version c =
    let at : c.len.result ≡ version_now (log_of c.self.inside.opening c.self.inside.batches.items c.self.inside.marks.items) =
    omega (c.len.ensures, c.self.inside.batches.ok.0, kept_version c.self.inside.opening c.self.inside.batches.items c.self.inside.marks.items c.self.invariant, arith) in
    at ∙ ap (λ (z : KeptLog). version_now z.log) c.self.view_is
