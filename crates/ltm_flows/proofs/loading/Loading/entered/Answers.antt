use Rattle.std.proofs.Common.{◌∙◌, ℕ, ap}
use Rattle.ltm_curve.specs.TotalCurves.{total_at}
use Rattle.ltm_loading.specs.Groups.{up_of}
use Rattle.ltm_flows.proofs.Showing.{shown_entered}
use Rattle.ltm_flows.proofs.loading.Loading.entered.Goals as goal

pub returns-clause-shown : goal.returns-clause-shown
returns-clause-shown c s version counts shows =
    c.total.ensures.total
    ∙ (ap (λ (g : ℕ). total_at c.args.self.now.curves g c.slots.result) c.up_of.ensures
    ∙ (ap (λ (k : ℕ). total_at c.args.self.now.curves (up_of c.args.link.0) k) c.slots.ensures ∙ shown_entered s version counts c.args.self.now shows c.args.link.0 c.requires))
