use Rattle.std.proofs.Common.{ℕ, ◌<◌, ◌≤◌, ◌+◌, ◌*◌, arith, ap, sym, subst, ◌∙◌}
use Rattle.ltm_curve.specs.declared.total_curves.TotalCurves.{TotalCurves}
use Rattle.ltm_curve.specs.TotalCurves.{total_at, total_slots}
use Rattle.ltm_flows.specs.Shown.{curves_of, last_of, step_of, links_of, nodes_of}
use Rattle.ltm_times.specs.Moments.{first_moment}
use Rattle.ltm_gap.proofs.Reaching.{from_past, from_here, from_later, same_product}
use Rattle.ltm_gap.proofs.leaving.reached.Goals as goal

pub returns-then-from-step : goal.returns-then-from-step
returns-then-from-step c =
    let end = same_product c.from.result (last_of c.args.loading.now) c.step.result.0 (step_of c.args.loading.now) (c.from.ensures ∙ c.slots.ensures) c.step.ensures.value in
    from_past (total_at (curves_of c.args.loading.now) c.args.group) (step_of c.args.loading.now) (last_of c.args.loading.now) c.args.count c.args.from.0 (omega arith)

pub returns-then-count-total_at : goal.returns-then-count-total_at
returns-then-count-total_at c =
    let end = same_product c.from.result (last_of c.args.loading.now) c.step.result.0 (step_of c.args.loading.now) (c.from.ensures ∙ c.slots.ensures) c.step.ensures.value in
    let has : c.args.count ≤ c.total_at.result = c.if-count-total_at.true in
    from_here (total_at (curves_of c.args.loading.now) c.args.group) (step_of c.args.loading.now) (last_of c.args.loading.now) c.args.count c.args.from.0 (omega arith) (subst (λ n. c.args.count ≤ n) c.total_at.ensures has)

pub returns : goal.returns
returns c =
    let l = c.args.loading.now in
    let end = same_product c.from.result (last_of l) c.step.result.0 (step_of l) (c.from.ensures ∙ c.slots.ensures) c.step.ensures.value in
    let some : 0 < step_of l = subst (λ n. 0 < n) c.step.ensures.value (omega arith) in
    let few : c.total_at.result < c.args.count = omega arith in
    let group : c.args.group < 2 * links_of l + nodes_of l + 1 = c.requires in
    c.moment_of.ensures.time
    ∙ (ap (λ (z : TotalCurves). first_moment (total_at z c.args.group) c.step-2.result.0 (total_slots z) c.args.count) c.curves.ensures.value
    ∙ (ap (λ (n : ℕ). first_moment (total_at (curves_of l) c.args.group) n (last_of l) c.args.count) c.step-2.ensures.value
    ∙ from_later (total_at (curves_of l) c.args.group) (step_of l) (last_of l) c.args.count c.args.from.0 some (λ k x. c.curves.ensures.rises c.args.group k (subst (λ n. c.args.group < n) (sym c.curves.ensures.groups) group) x) (omega arith) (subst (λ n. n < c.args.count) c.total_at.ensures few)))
