use Rattle.std.proofs.Common.{ℕ, ap, arith, subst, sym, ◌∙◌}
use Rattle.ltm_curve.specs.declared.total_curves.TotalCurves.{TotalCurves}
use Rattle.ltm_curve.specs.TotalCurves.{total_at}
use Rattle.ltm_loading.specs.Groups.{up_of}
use Rattle.ltm_flows.specs.Shown.{curves_of, free_of}
use Rattle.ltm_times.specs.Behind.{IsBehind}
use Rattle.ltm_times.specs.Queues.{delayed}
use Rattle.ltm_times.proofs.Shown.{shown_ready}
use Rattle.ltm_times.proofs.queues.ready_by.Goals as goal

pub returns-clause-shown : goal.returns-clause-shown
returns-clause-shown c s version counts shows =
    let l = c.args.loading.now in
    let link : ℕ = c.args.link.0 in
    let k : ℕ = c.args.boundary in
    let free : ℕ = free_of l link in
    let is : IsBehind c.step.result.0 free c.args.free = subst (λ (n : ℕ). IsBehind n free c.args.free) (sym c.step.ensures.value) c.requires.free in
    c.total_behind.ensures.total free is
    ∙ (ap (λ (z : TotalCurves). delayed (total_at z c.up_of.result) c.step.result.0 free k) c.curves-curves.ensures.value
    ∙ (ap (λ (g : ℕ). delayed (total_at (curves_of l) g) c.step.result.0 free k) c.up_of.ensures
    ∙ (ap (λ (n : ℕ). delayed (total_at (curves_of l) (up_of link)) n free k) c.step.ensures.value
    ∙ shown_ready s version counts l shows link k c.requires.link c.requires.boundary (omega (arith, c.step.ensures.some, c.step.ensures.value)))))
