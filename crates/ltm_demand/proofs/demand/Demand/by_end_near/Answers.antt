use Rattle.std.proofs.Common.{◌≡◌, ◌≤◌, ◌<◌, ◌+◌, List, All, sym, subst, ap, refl, ◌∙◌}
use Rattle.ltm_demand.specs.declared.row.DemandRow.{DemandRow}
use Rattle.ltm_demand.specs.Rows.{DemandState}
use Rattle.ltm_demand.specs.Produced.{by_end, by_end_to, total}
use Rattle.ltm_demand.specs.Productions.{told}
use Rattle.ltm_demand.specs.Origins.{OriginData, origin_at, no_origin}
use Rattle.ltm_demand.specs.Places.{NeverFall}
use Rattle.ltm_units.specs.Bounds.{most_amount, most_produced}
use Rattle.ltm_demand.proofs.Own.{tells, own_by_end, never_fall, each_is, own_total}
use Rattle.ltm_demand.proofs.demand.Demand.by_end_near.Goals as goal

pub sum_to-requires-clause-order : goal.sum_to-requires-clause-order
sum_to-requires-clause-order c =
    let xs = c.self.inside.origins.items in
    let o = c.args.origin.0 in
    let read : c.in-Some.origin.now ≡ origin_at xs o = c.in-Some.ensures.some ∙ ap (λ (ys : List OriginData). origin_at ys o) c.deref.ensures.value in
    subst (λ (x : OriginData). NeverFall x.rows) (sym read) (never_fall c.self.inside.slots c.self.inside.most_rows c.self.inside.tabled c.self.inside.count xs c.self.invariant o)

pub sum_to-requires-clause-each : goal.sum_to-requires-clause-each
sum_to-requires-clause-each c =
    let xs = c.self.inside.origins.items in
    let o = c.args.origin.0 in
    let read : c.in-Some.origin.now ≡ origin_at xs o = c.in-Some.ensures.some ∙ ap (λ (ys : List OriginData). origin_at ys o) c.deref.ensures.value in
    subst (λ (x : OriginData). All (λ (row : DemandRow). (row.from < row.to) × (row.amount.0 ≤ most_amount)) x.rows) (sym read) (each_is c.self.inside.slots c.self.inside.most_rows c.self.inside.tabled c.self.inside.count xs c.self.invariant o)

pub sum_to-requires-clause-small : goal.sum_to-requires-clause-small
sum_to-requires-clause-small c =
    let xs = c.self.inside.origins.items in
    let o = c.args.origin.0 in
    let read : c.in-Some.origin.now ≡ origin_at xs o = c.in-Some.ensures.some ∙ ap (λ (ys : List OriginData). origin_at ys o) c.deref.ensures.value in
    subst (λ (x : OriginData). total x.rows ≤ most_produced) (sym read) (own_total c.self.inside.slots c.self.inside.most_rows c.self.inside.tabled c.self.inside.count xs c.self.invariant o)

pub returns-then-self : goal.returns-then-self
returns-then-self c =
    let xs = c.self.inside.origins.items in
    let o = c.args.origin.0 in
    let e = c.args.destination in
    let t = c.args.slot in
    let read : c.in-Some.origin.now ≡ origin_at xs o = c.in-Some.ensures.some ∙ ap (λ (ys : List OriginData). origin_at ys o) c.deref.ensures.value in
    c.by_end.ensures ∙ (ap (λ (x : OriginData). told x.table (e + 1) t) read
    ∙ (tells c.self.inside.slots c.self.inside.most_rows c.self.inside.tabled c.self.inside.count xs c.self.invariant o c.if-self.true e t ∙ ap (λ (d : DemandState). by_end d.demand.rows o e t) c.self.view_is))

pub returns-else-self : goal.returns-else-self
returns-else-self c =
    let xs = c.self.inside.origins.items in
    let o = c.args.origin.0 in
    let e = c.args.destination in
    let t = c.args.slot in
    let read : c.in-Some.origin.now ≡ origin_at xs o = c.in-Some.ensures.some ∙ ap (λ (ys : List OriginData). origin_at ys o) c.deref.ensures.value in
    c.sum_to.ensures ∙ (ap (λ (x : OriginData). by_end_to x.rows e t) read
    ∙ (own_by_end c.self.inside.slots c.self.inside.most_rows c.self.inside.tabled c.self.inside.count xs c.self.invariant o e t ∙ ap (λ (d : DemandState). by_end d.demand.rows o e t) c.self.view_is))

pub returns-in-None : goal.returns-in-None
returns-in-None c =
    let xs = c.self.inside.origins.items in
    let o = c.args.origin.0 in
    let e = c.args.destination in
    let t = c.args.slot in
    let none : origin_at xs o ≡ no_origin = ap (λ (ys : List OriginData). origin_at ys o) (sym c.deref.ensures.value) ∙ c.in-None.ensures.none refl in
    sym (ap (λ (x : OriginData). by_end_to x.rows e t) none) ∙ (own_by_end c.self.inside.slots c.self.inside.most_rows c.self.inside.tabled c.self.inside.count xs c.self.invariant o e t ∙ ap (λ (d : DemandState). by_end d.demand.rows o e t) c.self.view_is)
