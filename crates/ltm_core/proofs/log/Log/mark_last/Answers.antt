use Rattle.std.proofs.Common.{◌≡◌, ◌-◌, ℕ, length, slice_set, true, ap, subst, ◌∙◌, arith}
use Rattle.ltm_core.specs.Log.{Log, KeptLog, with_mark}
use Rattle.ltm_core.proofs.Logs.{set_log, set_none}
use Rattle.ltm_core.proofs.log.Log.mark_last.Goals as goal

pub returns-then-count-gt0 : goal.returns-then-count-gt0
returns-then-count-gt0 c =
    let at : c.len-count.result ≡ length c.self.inside.marks.items = omega (c.len-count.ensures, c.self.inside.marks.ok.0, arith) in
    set_log c.self.inside.opening c.self.inside.batches.items c.self.inside.marks.items _ c.self.invariant (ap (λ (n : ℕ). slice_set c.self.inside.marks.items (n - 1) true) at)
    ∙ ap (λ (z : KeptLog). with_mark z.log) c.self.view_is

pub returns-else-count-gt0 : goal.returns-else-count-gt0
returns-else-count-gt0 c =
    let none : length c.self.inside.marks.items ≡ 0 = omega (c.if-count-gt0.false, c.len-count.ensures, c.self.inside.marks.ok.0, arith) in
    subst (λ (z : Log). z ≡ with_mark z) (ap (λ (z : KeptLog). z.log) c.self.view_is)
    (set_log c.self.inside.opening c.self.inside.batches.items c.self.inside.marks.items _ c.self.invariant (set_none c.self.inside.marks.items none))
