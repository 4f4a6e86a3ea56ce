use Rattle.std.proofs.Common.{◌≡◌, [], List, ap, sym, subst, refl, ◌∙◌}
use Rattle.std.specs.Prelude.{IfOk, IfErr}
use Rattle.std.specs.List.Sorted.{IsStrictlySortedBy}
use Rattle.ltm_demand.specs.declared.row.DemandRow.{DemandRow}
use Rattle.ltm_demand.specs.Rows.{DemandState, row_cmp, own_rows}
use Rattle.ltm_demand.specs.Origins.{OriginData, origin_at}
use Rattle.ltm_demand.specs.Places.{IsAt, IsGap}
use Rattle.ltm_demand.proofs.Joined.{own_joined, sorted_own}
use Rattle.ltm_demand.proofs.KeptOrigins.{empty_gap}
use Rattle.ltm_demand.proofs.demand.Demand.place.Goals as goal

pub find-requires : goal.find-requires
find-requires c =
    let xs = c.self.inside.origins.items in
    let o = c.args.row.now.origin.0 in
    let read : c.in-Some.origin.now ≡ origin_at xs o = c.in-Some.ensures.some ∙ ap (λ (ys : List OriginData). origin_at ys o) c.deref.ensures.value in
    subst (λ (x : OriginData). IsStrictlySortedBy row_cmp x.rows) (sym read) (sorted_own xs c.self.invariant.own o c.self.invariant.are_rows.ordered)

pub returns-in-Some-clause-found : goal.returns-in-Some-clause-found
returns-in-Some-clause-found c =
    let xs = c.self.inside.origins.items in
    let o = c.args.row.now.origin.0 in
    let read : c.in-Some.origin.now ≡ origin_at xs o = c.in-Some.ensures.some ∙ ap (λ (ys : List OriginData). origin_at ys o) c.deref.ensures.value in
    let own : c.in-Some.origin.now.rows ≡ own_rows c.args.self.now.demand.rows o = ap (λ (x : OriginData). x.rows) read ∙ (sym (own_joined xs c.self.invariant.own o) ∙ ap (λ (d : DemandState). own_rows d.demand.rows o) c.self.view_is) in
    subst (λ (rows : List DemandRow). IfOk c.find.result (IsAt rows c.args.row.now)) own c.find.ensures.found

pub returns-in-Some-clause-absent : goal.returns-in-Some-clause-absent
returns-in-Some-clause-absent c =
    let xs = c.self.inside.origins.items in
    let o = c.args.row.now.origin.0 in
    let read : c.in-Some.origin.now ≡ origin_at xs o = c.in-Some.ensures.some ∙ ap (λ (ys : List OriginData). origin_at ys o) c.deref.ensures.value in
    let own : c.in-Some.origin.now.rows ≡ own_rows c.args.self.now.demand.rows o = ap (λ (x : OriginData). x.rows) read ∙ (sym (own_joined xs c.self.invariant.own o) ∙ ap (λ (d : DemandState). own_rows d.demand.rows o) c.self.view_is) in
    subst (λ (rows : List DemandRow). IfErr c.find.result (IsGap rows c.args.row.now)) own c.find.ensures.absent

pub returns-in-None-clause-absent : goal.returns-in-None-clause-absent
returns-in-None-clause-absent c =
    let xs = c.self.inside.origins.items in
    let o = c.args.row.now.origin.0 in
    let none : (origin_at xs o).rows ≡ [] = ap (λ (ys : List OriginData). (origin_at ys o).rows) (sym c.deref.ensures.value) ∙ ap (λ (x : OriginData). x.rows) (c.in-None.ensures.none refl) in
    let own : own_rows c.args.self.now.demand.rows o ≡ [] = ap (λ (d : DemandState). own_rows d.demand.rows o) (sym c.self.view_is) ∙ (own_joined xs c.self.invariant.own o ∙ none) in
    subst (λ (rows : List DemandRow). IsGap rows c.args.row.now 0) (sym own) (empty_gap c.args.row.now)
