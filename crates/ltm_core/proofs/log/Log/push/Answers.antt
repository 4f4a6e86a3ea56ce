use Rattle.std.proofs.Common.{◌≡◌, ◌+◌, ◌∷◌, [], length, length-append, ap, ◌∙◌, arith}
use Rattle.ltm_core.specs.Log.{KeptLog, version_now, with_batch}
use Rattle.ltm_core.proofs.Logs.{put_log, kept_version}
use Rattle.ltm_core.proofs.log.Log.push.Goals as goal

pub returns-clause-log : goal.returns-clause-log
returns-clause-log c =
    put_log c.self.inside.opening c.self.inside.batches.items _ c.self.inside.marks.items _ c.args.batch c.self.invariant c.in-Ok.ensures.items c.in-Ok-push.ensures.items
    ∙ ap (λ (z : KeptLog). with_batch z.log c.args.batch) c.self.view_is

pub returns-clause-few : goal.returns-clause-few
returns-clause-few c =
    let more : length c.push.new.self.items ≡ length c.self.inside.batches.items + 1 = ap length c.in-Ok.ensures.items ∙ length-append c.self.inside.batches.items (c.args.batch ∷ []) in
    let now = ap (λ (z : KeptLog). version_now z.log) c.self.view_is in
    omega (c.push.new.self.ok.0, c.push.new.self.ok.1, c.in-Ok.ensures.upper_bound, more, now, kept_version c.self.inside.opening c.self.inside.batches.items c.self.inside.marks.items c.self.invariant, arith)
