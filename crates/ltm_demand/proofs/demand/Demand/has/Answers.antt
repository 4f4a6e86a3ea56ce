use Rattle.std.proofs.Common.{◌≡◌, ◌==◌, [], List, ap, sym, refl, ◌∙◌}
use Rattle.std.specs.List.{list_any}
use Rattle.ltm_demand.specs.Rows.{DemandState}
use Rattle.ltm_demand.specs.Produced.{has}
use Rattle.ltm_demand.specs.Origins.{OriginData, origin_at}
use Rattle.ltm_demand.proofs.Joined.{any_joined}
use Rattle.ltm_demand.proofs.demand.Demand.has.Goals as goal

pub returns-in-Some : goal.returns-in-Some
returns-in-Some c =
    let xs = c.self.inside.origins.items in
    let o = c.args.origin.0 in
    let e = c.args.destination in
    let rows : c.rows.result.now ≡ (origin_at xs o).rows = c.rows.ensures.rows ∙ (ap (λ (x : OriginData). x.rows) c.in-Some.ensures.some ∙ ap (λ (ys : List OriginData). (origin_at ys o).rows) c.deref.ensures.value) in
    c.leads_to.ensures ∙ (ap (list_any (λ r. r.destination == e)) rows ∙ (sym (any_joined xs c.self.invariant.own o e) ∙ ap (λ (d : DemandState). has d.demand.rows o e) c.self.view_is))

pub returns-in-None : goal.returns-in-None
returns-in-None c =
    let xs = c.self.inside.origins.items in
    let o = c.args.origin.0 in
    let e = c.args.destination in
    let none : (origin_at xs o).rows ≡ [] = ap (λ (ys : List OriginData). (origin_at ys o).rows) (sym c.deref.ensures.value) ∙ ap (λ (x : OriginData). x.rows) (c.in-None.ensures.none refl) in
    sym (ap (λ (d : DemandState). has d.demand.rows o e) (sym c.self.view_is) ∙ (any_joined xs c.self.invariant.own o e ∙ ap (list_any (λ r. r.destination == e)) none))
