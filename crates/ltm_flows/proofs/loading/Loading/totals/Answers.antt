use Rattle.std.proofs.Common.{◌≡◌, ℕ, ◌∙◌, ap, arith, subst}
use Rattle.ltm_curve.specs.TotalCurves.{total_at}
use Rattle.ltm_loading.specs.Totals.{generated}
use Rattle.ltm_flows.specs.Shown.{generated_of}
use Rattle.ltm_flows.specs.InAll.{AreSums}
use Rattle.ltm_flows.proofs.Showing.{sums_are_totals}
use Rattle.ltm_flows.proofs.loading.Loading.totals.Goals as goal

pub returns-clause-counted : goal.returns-clause-counted
returns-clause-counted c =
    let l = c.args.self.now in
    let sums = subst (λ (k : ℕ). AreSums (total_at l.curves) l.links l.nodes k c.generated-generated.result.0 c.sum_up.result) c.slots-last.ensures c.sum_up.ensures in
    let made = subst (λ (k : ℕ). c.generated-generated.result.0 ≡ generated_of l k) c.slots-last.ensures c.generated-generated.ensures in
    record {
      generated = sums.generated ∙ made;
      arrived = sums.arrived;
      on_links = sums.on_links;
      waiting = omega (arith, sums.waiting, made);
    }

pub returns-clause-shown : goal.returns-clause-shown
returns-clause-shown c s version counts shows =
    let l = c.args.self.now in
    let at : c.slots-last.result ≡ s.slots = omega (arith, c.slots-last.ensures, shows.shape.same_slots) in
    let made : c.generated-generated.result.0 ≡ generated s s.slots = c.generated-generated.ensures ∙ (shows.generated c.slots-last.result (omega (arith, at)) ∙ ap (λ (k : ℕ). generated s k) at) in
    let sums = subst (λ (k : ℕ). AreSums (total_at l.curves) l.links l.nodes k c.generated-generated.result.0 c.sum_up.result) at c.sum_up.ensures in
    sums_are_totals s counts (total_at l.curves) l.links l.nodes s.slots c.generated-generated.result.0 c.sum_up.result shows.links shows.nodes made (λ g x. shows.totals g s.slots x (omega arith)) sums
