use Rattle.std.proofs.Common.{◌≡◌, ℕ, ap, arith, subst, sym, ◌∙◌}
use Rattle.ltm_curve.specs.declared.total_curves.TotalCurves.{TotalCurves}
use Rattle.ltm_curve.specs.Counts.{Rises}
use Rattle.ltm_curve.specs.TotalCurves.{total_slots, total_at}
use Rattle.ltm_loading.specs.Groups.{down_of}
use Rattle.ltm_loading.specs.Totals.{left_link}
use Rattle.ltm_flows.specs.Shown.{curves_of, last_of}
use Rattle.ltm_times.specs.Moments.{first_moment}
use Rattle.ltm_times.proofs.Shown.{shown_left, shown_exit}
use Rattle.ltm_times.proofs.passing.exit_ms.Goals as goal

pub moment_of-requires-clause-rises : goal.moment_of-requires-clause-rises
moment_of-requires-clause-rises c =
    let group : ℕ = c.down_of.result in
    subst (λ (z : TotalCurves). Rises (total_at z group) (total_slots z)) (sym c.curves.ensures.value)
    (λ k x. c.curves.ensures.rises group k (omega (arith, c.curves.ensures.groups, c.down_of.ensures)) x)

pub returns-clause-time : goal.returns-clause-time
returns-clause-time c s version counts shows =
    let l = c.args.loading.now in
    c.moment_of.ensures.time
    ∙ (ap (λ (z : TotalCurves). first_moment (total_at z c.down_of.result) c.step.result.0 (total_slots z) c.args.count.0) c.curves.ensures.value
    ∙ (ap (λ (g : ℕ). first_moment (total_at (curves_of l) g) c.step.result.0 (last_of l) c.args.count.0) c.down_of.ensures
    ∙ (ap (λ (n : ℕ). first_moment (total_at (curves_of l) (down_of c.args.link.0)) n (last_of l) c.args.count.0) c.step.ensures.value
    ∙ shown_exit s version counts l shows c.args.link.0 c.args.count.0 c.requires (omega (arith, c.step.ensures.some, c.step.ensures.value)))))

pub returns-clause-none : goal.returns-clause-none
returns-clause-none c s version counts shows =
    let now : total_at c.curves.result.now c.down_of.result (total_slots c.curves.result.now) ≡ left_link s counts c.args.link.0 s.slots =
    ap (λ (z : TotalCurves). total_at z c.down_of.result (total_slots z)) c.curves.ensures.value
    ∙ (ap (λ (g : ℕ). total_at (curves_of c.args.loading.now) g (last_of c.args.loading.now)) c.down_of.ensures
    ∙ shown_left s version counts c.args.loading.now shows c.args.link.0 c.requires) in
    (λ none. omega (arith, c.moment_of.ensures.none.0 none, now), λ few. c.moment_of.ensures.none.1 (omega (arith, few, now)))
