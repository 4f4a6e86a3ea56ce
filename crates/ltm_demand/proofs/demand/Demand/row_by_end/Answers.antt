use Rattle.std.proofs.Common.{◌≡◌, ◌+◌, List, ap, sym, refl, ◌∙◌}
use Rattle.ltm_demand.specs.Rows.{DemandState}
use Rattle.ltm_demand.specs.Produced.{by_end}
use Rattle.ltm_demand.specs.Productions.{ProductionData, no_table, told}
use Rattle.ltm_demand.specs.Origins.{OriginData, origin_at}
use Rattle.ltm_demand.proofs.Told.{told_empty}
use Rattle.ltm_demand.proofs.Own.{tells}
use Rattle.ltm_demand.proofs.demand.Demand.row_by_end.Goals as goal

pub returns-in-None-clause-row : goal.returns-in-None-clause-row
returns-in-None-clause-row c =
    λ e.
    let xs = c.self.inside.origins.items in
    let o = c.args.origin.0 in
    let none : (origin_at xs o).table ≡ no_table = ap (λ (ys : List OriginData). (origin_at ys o).table) (sym c.deref.ensures.value) ∙ ap (λ (x : OriginData). x.table) (c.in-None.ensures.none refl) in
    let t = c.args.slot in
    sym (told_empty no_table (e + 1) t refl) ∙ (ap (λ (d : ProductionData). told d (e + 1) t) (sym none) ∙ (tells c.self.inside.slots c.self.inside.most_rows c.self.inside.tabled c.self.inside.count xs c.self.invariant o c.if-not-self.false e t ∙ ap (λ (d : DemandState). by_end d.demand.rows o e t) c.self.view_is))
