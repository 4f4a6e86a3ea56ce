use Rattle.std.proofs.Common.{◌∙◌, ℕ, ap}
use Rattle.ltm_curve.specs.TotalCurves.{total_at}
use Rattle.ltm_flows.proofs.Showing.{shown_arrived}
use Rattle.ltm_flows.proofs.loading.Loading.arrived.Goals as goal

pub returns-clause-counted : goal.returns-clause-counted
returns-clause-counted c = c.total.ensures.total ∙ ap (λ (g : ℕ). total_at c.args.self.now.curves g c.args.boundary) c.arr_behind-group.ensures

pub returns-clause-shown : goal.returns-clause-shown
returns-clause-shown c s version counts shows =
    c.total.ensures.total
    ∙ (ap (λ (g : ℕ). total_at c.args.self.now.curves g c.args.boundary) c.arr_behind-group.ensures ∙ shown_arrived s version counts c.args.self.now shows c.args.boundary c.requires)
