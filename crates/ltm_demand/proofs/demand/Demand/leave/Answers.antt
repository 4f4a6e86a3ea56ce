use Rattle.std.proofs.Common.{◌≡◌, true, sym, subst}
use Rattle.ltm_demand.specs.Rows.{DemandState, own_rows, has_slots}
use Rattle.ltm_demand.specs.Origins.{origin_at}
use Rattle.ltm_demand.specs.Places.{IsGap}
use Rattle.ltm_demand.proofs.Restoring.{IsDone, none_stands}
use Rattle.ltm_demand.proofs.Changes.{gap_own, left_done}
use Rattle.ltm_demand.proofs.demand.Demand.leave.Goals as goal

pub returns-clause-was : goal.returns-clause-was
returns-clause-was c =
    none_stands c.args.self.now.demand.rows c.args.row.now c.args.place c.requires.gap

pub returns-clause-done : goal.returns-clause-done
returns-clause-done c =
    let xs = c.self.inside.origins.items in
    let row = c.args.row.now in
    let kept = c.self.invariant in
    let gap : IsGap (origin_at xs row.origin.0).rows row c.args.place = gap_own c.self.inside.slots c.self.inside.most_rows c.self.inside.tabled c.self.inside.count xs row c.args.place kept (subst (λ (d : DemandState). IsGap (own_rows d.demand.rows row.origin.0) row c.args.place) (sym c.self.view_is) c.requires.gap) in
    let within : has_slots c.self.inside.slots row ≡ true = subst (λ (d : DemandState). has_slots d.demand.slots row ≡ true) (sym c.self.view_is) c.requires.slots in
    (subst (λ (d : DemandState). IsDone d d row 0) c.self.view_is
    (left_done c.self.inside.slots c.self.inside.most_rows c.self.inside.tabled c.self.inside.count xs row c.args.place kept gap within c.requires.none)).done

pub returns-clause-back : goal.returns-clause-back
returns-clause-back c =
    let xs = c.self.inside.origins.items in
    let row = c.args.row.now in
    let kept = c.self.invariant in
    let gap : IsGap (origin_at xs row.origin.0).rows row c.args.place = gap_own c.self.inside.slots c.self.inside.most_rows c.self.inside.tabled c.self.inside.count xs row c.args.place kept (subst (λ (d : DemandState). IsGap (own_rows d.demand.rows row.origin.0) row c.args.place) (sym c.self.view_is) c.requires.gap) in
    let within : has_slots c.self.inside.slots row ≡ true = subst (λ (d : DemandState). has_slots d.demand.slots row ≡ true) (sym c.self.view_is) c.requires.slots in
    (subst (λ (d : DemandState). IsDone d d row 0) c.self.view_is
    (left_done c.self.inside.slots c.self.inside.most_rows c.self.inside.tabled c.self.inside.count xs row c.args.place kept gap within c.requires.none)).back

pub returns-clause-undo : goal.returns-clause-undo
returns-clause-undo c =
    let xs = c.self.inside.origins.items in
    let row = c.args.row.now in
    let kept = c.self.invariant in
    let gap : IsGap (origin_at xs row.origin.0).rows row c.args.place = gap_own c.self.inside.slots c.self.inside.most_rows c.self.inside.tabled c.self.inside.count xs row c.args.place kept (subst (λ (d : DemandState). IsGap (own_rows d.demand.rows row.origin.0) row c.args.place) (sym c.self.view_is) c.requires.gap) in
    let within : has_slots c.self.inside.slots row ≡ true = subst (λ (d : DemandState). has_slots d.demand.slots row ≡ true) (sym c.self.view_is) c.requires.slots in
    (subst (λ (d : DemandState). IsDone d d row 0) c.self.view_is
    (left_done c.self.inside.slots c.self.inside.most_rows c.self.inside.tabled c.self.inside.count xs row c.args.place kept gap within c.requires.none)).undo
