use Rattle.std.proofs.Common.{◌≡◌, ℕ, ◌<◌, true, length, set, arith, ap, sym, subst, ◌∙◌}
use Rattle.std.proofs.lemmas.List.{get_or_read}
use Rattle.ltm_demand.specs.Rows.{DemandState, IsNoLess, room_at, own_rows, edited_rows, amount_at, has_slots}
use Rattle.ltm_demand.specs.Productions.{seen, IsShifted, IsReached, IsRoomy}
use Rattle.ltm_demand.specs.Origins.{OriginData, no_origin, origin_at, rows_of}
use Rattle.ltm_demand.specs.Kept.{room_in, room_of}
use Rattle.ltm_demand.specs.Places.{IsAt}
use Rattle.ltm_demand.proofs.Joined.{amount_joined, was_joined}
use Rattle.ltm_demand.proofs.Restoring.{IsDone, state_of}
use Rattle.ltm_demand.proofs.KeptOrigins.{at_inside, roomy_was, room_set}
use Rattle.ltm_demand.proofs.Changes.{at_own, stood, stood_reached, replaced_kept, replaced_done}
use Rattle.ltm_demand.proofs.demand.Demand.replace.Goals as goal

pub index_mut-origin-requires : goal.index_mut-origin-requires
index_mut-origin-requires c =
    let xs = c.self.inside.origins.items in
    let row = c.args.row.now in
    let kept = c.self.invariant in
    let at : IsAt (origin_at xs row.origin.0).rows row c.args.place = at_own c.self.inside.slots c.self.inside.most_rows c.self.inside.tabled c.self.inside.count xs row c.args.place kept (subst (λ (d : DemandState). IsAt (own_rows d.demand.rows row.origin.0) row c.args.place) (sym c.self.view_is) c.requires.at) in
    let inside : row.origin.0 < length xs = at_inside xs row c.args.place at in
    omega (arith, inside, c.self.inside.origins.ok)

pub replace-was-requires-clause-at : goal.replace-was-requires-clause-at
replace-was-requires-clause-at c =
    let xs = c.self.inside.origins.items in
    let row = c.args.row.now in
    let kept = c.self.invariant in
    let at : IsAt (origin_at xs row.origin.0).rows row c.args.place = at_own c.self.inside.slots c.self.inside.most_rows c.self.inside.tabled c.self.inside.count xs row c.args.place kept (subst (λ (d : DemandState). IsAt (own_rows d.demand.rows row.origin.0) row c.args.place) (sym c.self.view_is) c.requires.at) in
    let inside : row.origin.0 < length xs = at_inside xs row c.args.place at in
    let read : c.index_mut-origin.result.now ≡ origin_at xs row.origin.0 = get_or_read xs row.origin.0 c.index_mut-origin.result.now inside c.index_mut-origin.ensures.value no_origin in
    subst (λ (o : OriginData). IsAt o.rows row c.args.place) (sym read) at

pub replace-was-requires-clause-was : goal.replace-was-requires-clause-was
replace-was-requires-clause-was c =
    let xs = c.self.inside.origins.items in
    let row = c.args.row.now in
    let kept = c.self.invariant in
    let at : IsAt (origin_at xs row.origin.0).rows row c.args.place = at_own c.self.inside.slots c.self.inside.most_rows c.self.inside.tabled c.self.inside.count xs row c.args.place kept (subst (λ (d : DemandState). IsAt (own_rows d.demand.rows row.origin.0) row c.args.place) (sym c.self.view_is) c.requires.at) in
    let inside : row.origin.0 < length xs = at_inside xs row c.args.place at in
    let read : c.index_mut-origin.result.now ≡ origin_at xs row.origin.0 = get_or_read xs row.origin.0 c.index_mut-origin.result.now inside c.index_mut-origin.ensures.value no_origin in
    omega (arith, (stood c.self.inside.slots c.self.inside.most_rows c.self.inside.tabled c.self.inside.count xs row c.args.place kept at).small, ap (λ (o : OriginData). amount_at o.rows row) read)

pub replace-was-requires-clause-reached : goal.replace-was-requires-clause-reached
replace-was-requires-clause-reached c =
    let xs = c.self.inside.origins.items in
    let row = c.args.row.now in
    let kept = c.self.invariant in
    let at : IsAt (origin_at xs row.origin.0).rows row c.args.place = at_own c.self.inside.slots c.self.inside.most_rows c.self.inside.tabled c.self.inside.count xs row c.args.place kept (subst (λ (d : DemandState). IsAt (own_rows d.demand.rows row.origin.0) row c.args.place) (sym c.self.view_is) c.requires.at) in
    let inside : row.origin.0 < length xs = at_inside xs row c.args.place at in
    let read : c.index_mut-origin.result.now ≡ origin_at xs row.origin.0 = get_or_read xs row.origin.0 c.index_mut-origin.result.now inside c.index_mut-origin.ensures.value no_origin in
    subst (λ (o : OriginData). IsReached o.table (seen c.self.inside.tabled row)) (sym read) (stood_reached c.self.inside.slots c.self.inside.most_rows c.self.inside.tabled c.self.inside.count xs row c.args.place kept at)

pub replace-was-requires-clause-roomy : goal.replace-was-requires-clause-roomy
replace-was-requires-clause-roomy c =
    let xs = c.self.inside.origins.items in
    let row = c.args.row.now in
    let kept = c.self.invariant in
    let at : IsAt (origin_at xs row.origin.0).rows row c.args.place = at_own c.self.inside.slots c.self.inside.most_rows c.self.inside.tabled c.self.inside.count xs row c.args.place kept (subst (λ (d : DemandState). IsAt (own_rows d.demand.rows row.origin.0) row c.args.place) (sym c.self.view_is) c.requires.at) in
    let inside : row.origin.0 < length xs = at_inside xs row c.args.place at in
    let read : c.index_mut-origin.result.now ≡ origin_at xs row.origin.0 = get_or_read xs row.origin.0 c.index_mut-origin.result.now inside c.index_mut-origin.ensures.value no_origin in
    subst (λ (o : OriginData). IsRoomy o.table (seen c.self.inside.tabled row) (amount_at o.rows row)) (sym read)
    (roomy_was c.self.inside.slots c.self.inside.most_rows c.self.inside.tabled c.self.inside.count xs row (amount_at (origin_at xs row.origin.0).rows row) kept (was_joined xs kept.own row (amount_at (origin_at xs row.origin.0).rows row) (stood c.self.inside.slots c.self.inside.most_rows c.self.inside.tabled c.self.inside.count xs row c.args.place kept at)))

pub invariant_of-self : goal.invariant_of-self
invariant_of-self c =
    let xs = c.self.inside.origins.items in
    let row = c.args.row.now in
    let kept = c.self.invariant in
    let at : IsAt (origin_at xs row.origin.0).rows row c.args.place = at_own c.self.inside.slots c.self.inside.most_rows c.self.inside.tabled c.self.inside.count xs row c.args.place kept (subst (λ (d : DemandState). IsAt (own_rows d.demand.rows row.origin.0) row c.args.place) (sym c.self.view_is) c.requires.at) in
    let inside : row.origin.0 < length xs = at_inside xs row c.args.place at in
    let read : c.index_mut-origin.result.now ≡ origin_at xs row.origin.0 = get_or_read xs row.origin.0 c.index_mut-origin.result.now inside c.index_mut-origin.ensures.value no_origin in
    let within : has_slots c.self.inside.slots row ≡ true = subst (λ (d : DemandState). has_slots d.demand.slots row ≡ true) (sym c.self.view_is) c.requires.slots in
    let was : c.replace-was.result ≡ amount_at (origin_at xs row.origin.0).rows row = c.replace-was.ensures.was ∙ ap (λ (o : OriginData). amount_at o.rows row) read in
    let rows : c.replace-was.new.self.rows ≡ edited_rows (origin_at xs row.origin.0).rows row = c.replace-was.ensures.rows ∙ ap (λ (o : OriginData). edited_rows o.rows row) read in
    let shifted : IsShifted (origin_at xs row.origin.0).table c.replace-was.new.self.table (seen c.self.inside.tabled row) c.replace-was.result = subst (λ (o : OriginData). IsShifted o.table c.replace-was.new.self.table (seen c.self.inside.tabled row) c.replace-was.result) read c.replace-was.ensures.shifted in
    replaced_kept c.self.inside.slots c.self.inside.most_rows c.self.inside.tabled c.self.inside.count xs row c.args.place kept at c.replace-was.result c.taken_out.result c.replace-was.new.self inside within c.requires.small was rows shifted c.taken_out.ensures

pub returns : goal.returns
returns c =
    let xs = c.self.inside.origins.items in
    let row = c.args.row.now in
    let kept = c.self.invariant in
    let at : IsAt (origin_at xs row.origin.0).rows row c.args.place = at_own c.self.inside.slots c.self.inside.most_rows c.self.inside.tabled c.self.inside.count xs row c.args.place kept (subst (λ (d : DemandState). IsAt (own_rows d.demand.rows row.origin.0) row c.args.place) (sym c.self.view_is) c.requires.at) in
    let inside : row.origin.0 < length xs = at_inside xs row c.args.place at in
    let read : c.index_mut-origin.result.now ≡ origin_at xs row.origin.0 = get_or_read xs row.origin.0 c.index_mut-origin.result.now inside c.index_mut-origin.ensures.value no_origin in
    let within : has_slots c.self.inside.slots row ≡ true = subst (λ (d : DemandState). has_slots d.demand.slots row ≡ true) (sym c.self.view_is) c.requires.slots in
    let was : c.replace-was.result ≡ amount_at (origin_at xs row.origin.0).rows row = c.replace-was.ensures.was ∙ ap (λ (o : OriginData). amount_at o.rows row) read in
    let rows : c.replace-was.new.self.rows ≡ edited_rows (origin_at xs row.origin.0).rows row = c.replace-was.ensures.rows ∙ ap (λ (o : OriginData). edited_rows o.rows row) read in
    let shifted : IsShifted (origin_at xs row.origin.0).table c.replace-was.new.self.table (seen c.self.inside.tabled row) c.replace-was.result = subst (λ (o : OriginData). IsShifted o.table c.replace-was.new.self.table (seen c.self.inside.tabled row) c.replace-was.result) read c.replace-was.ensures.shifted in
    let all = subst (λ (d : DemandState). IsDone d (state_of c.self.inside.slots c.self.inside.most_rows c.self.inside.tabled (rows_of (set xs row.origin.0 c.replace-was.new.self)) (room_of (set xs row.origin.0 c.replace-was.new.self))) row c.replace-was.result) c.self.view_is
    (replaced_done c.self.inside.slots c.self.inside.most_rows c.self.inside.tabled c.self.inside.count xs row c.args.place kept at c.replace-was.result c.taken_out.result c.replace-was.new.self inside within c.requires.small was rows shifted c.taken_out.ensures c.replace-was.ensures.vacant) in
    record {
      done = all.done;
      was = was ∙ (sym (amount_joined xs kept.own row) ∙ ap (λ (d : DemandState). amount_at d.demand.rows row) c.self.view_is);
      back = all.back;
      undo = all.undo;
      room = subst (λ (d : DemandState). (o : ℕ) → IsNoLess (room_at d.room o) (room_at (room_of (set xs row.origin.0 c.replace-was.new.self)) o)) c.self.view_is
          (room_set xs row.origin.0 c.replace-was.new.self inside (subst (λ (o : OriginData). IsNoLess (room_in o) (room_in c.replace-was.new.self)) read c.replace-was.ensures.places));
      tabled = ap (λ (d : DemandState). d.tabled) c.self.view_is;
    }
