use Rattle.std.proofs.Common.{ℕ, ◌-◌, ◌*◌, ◌+◌, ◌∙◌, sym, ap, arith}
use Rattle.ltm_curve.specs.Counts.{interpolated}
use Rattle.ltm_curve.specs.TotalCurves.{total_at}
use Rattle.ltm_times.proofs.InSteps.{behind_early, behind_late}
use Rattle.ltm_times.proofs.ready.total_behind.Goals as goal

pub returns-then-end-behind-clause-total : goal.returns-then-end-behind-clause-total
returns-then-end-behind-clause-total c time is =
    sym (behind_early (total_at c.args.curves.now c.args.group) c.args.step.0 time c.args.boundary c.args.behind.whole c.args.behind.rest.0 is.whole is.rest
    (omega (arith, c.if-end-behind.true, c.from-end.ensures)))

pub returns-clause-total : goal.returns-clause-total
returns-clause-total c time is =
    let curve : ℕ → ℕ = total_at c.args.curves.now c.args.group in
    let h : ℕ = c.args.step.0 in
    let whole : ℕ = c.args.behind.whole in
    let rest : ℕ = c.args.behind.rest.0 in
    c.past.ensures.total
    ∙ (ap (λ (n : ℕ). interpolated curve h ((n - whole) * h + rest)) c.from-end.ensures
    ∙ behind_late curve h time c.args.boundary whole rest is.whole (omega (arith, c.if-end-behind.false, c.from-end.ensures)))
