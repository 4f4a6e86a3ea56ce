use Rattle.std.proofs.Common.{◌≡◌, ℕ, ◌+◌, ◌<◌, true, length, set, arith, ap, sym, subst, ◌∙◌}
use Rattle.std.proofs.lemmas.List.{get_or_read}
use Rattle.ltm_demand.specs.Rows.{DemandState, IsNoLess, room_at, own_rows, edited_rows, has_slots, has_place}
use Rattle.ltm_demand.specs.Productions.{seen, IsShifted, IsReached, IsRoomy}
use Rattle.ltm_demand.specs.Origins.{OriginData, no_origin, origin_at, rows_of}
use Rattle.ltm_demand.specs.Kept.{room_in, room_of}
use Rattle.ltm_demand.specs.Places.{IsGap}
use Rattle.ltm_demand.proofs.Restoring.{IsDone, state_of, length_filled}
use Rattle.ltm_demand.proofs.KeptOrigins.{roomy_was, room_set}
use Rattle.ltm_demand.proofs.Changes.{IsVacant, vacant_in, vacant_inside, gap_own, none_joined, filled_kept, filled_done}
use Rattle.ltm_demand.proofs.demand.Demand.fill.Goals as goal

pub index_mut-origin-requires : goal.index_mut-origin-requires
index_mut-origin-requires c =
    let xs = c.self.inside.origins.items in
    let row = c.args.row.now in
    let kept = c.self.invariant in
    let vacant : IsVacant c.self.inside.tabled xs row = vacant_in c.self.inside.slots c.self.inside.most_rows c.self.inside.tabled c.self.inside.count xs row kept (subst (λ (d : DemandState). has_place d row ≡ true) (sym c.self.view_is) c.requires.vacant) in
    let inside : row.origin.0 < length xs = vacant_inside c.self.inside.tabled xs row vacant in
    omega (arith, inside, c.self.inside.origins.ok)

pub fill-requires-clause-gap : goal.fill-requires-clause-gap
fill-requires-clause-gap c =
    let xs = c.self.inside.origins.items in
    let row = c.args.row.now in
    let kept = c.self.invariant in
    let gap : IsGap (origin_at xs row.origin.0).rows row c.args.place = gap_own c.self.inside.slots c.self.inside.most_rows c.self.inside.tabled c.self.inside.count xs row c.args.place kept (subst (λ (d : DemandState). IsGap (own_rows d.demand.rows row.origin.0) row c.args.place) (sym c.self.view_is) c.requires.gap) in
    let vacant : IsVacant c.self.inside.tabled xs row = vacant_in c.self.inside.slots c.self.inside.most_rows c.self.inside.tabled c.self.inside.count xs row kept (subst (λ (d : DemandState). has_place d row ≡ true) (sym c.self.view_is) c.requires.vacant) in
    let inside : row.origin.0 < length xs = vacant_inside c.self.inside.tabled xs row vacant in
    let read : c.index_mut-origin.result.now ≡ origin_at xs row.origin.0 = get_or_read xs row.origin.0 c.index_mut-origin.result.now inside c.index_mut-origin.ensures.value no_origin in
    subst (λ (o : OriginData). IsGap o.rows row c.args.place) (sym read) gap

pub fill-requires-clause-vacant : goal.fill-requires-clause-vacant
fill-requires-clause-vacant c =
    let xs = c.self.inside.origins.items in
    let row = c.args.row.now in
    let kept = c.self.invariant in
    let vacant : IsVacant c.self.inside.tabled xs row = vacant_in c.self.inside.slots c.self.inside.most_rows c.self.inside.tabled c.self.inside.count xs row kept (subst (λ (d : DemandState). has_place d row ≡ true) (sym c.self.view_is) c.requires.vacant) in
    let inside : row.origin.0 < length xs = vacant_inside c.self.inside.tabled xs row vacant in
    let read : c.index_mut-origin.result.now ≡ origin_at xs row.origin.0 = get_or_read xs row.origin.0 c.index_mut-origin.result.now inside c.index_mut-origin.ensures.value no_origin in
    subst (λ (o : OriginData). length o.rows < o.places) (sym read) vacant.rows

pub fill-requires-clause-reached : goal.fill-requires-clause-reached
fill-requires-clause-reached c =
    let xs = c.self.inside.origins.items in
    let row = c.args.row.now in
    let kept = c.self.invariant in
    let vacant : IsVacant c.self.inside.tabled xs row = vacant_in c.self.inside.slots c.self.inside.most_rows c.self.inside.tabled c.self.inside.count xs row kept (subst (λ (d : DemandState). has_place d row ≡ true) (sym c.self.view_is) c.requires.vacant) in
    let inside : row.origin.0 < length xs = vacant_inside c.self.inside.tabled xs row vacant in
    let read : c.index_mut-origin.result.now ≡ origin_at xs row.origin.0 = get_or_read xs row.origin.0 c.index_mut-origin.result.now inside c.index_mut-origin.ensures.value no_origin in
    subst (λ (o : OriginData). IsReached o.table (seen c.self.inside.tabled row)) (sym read) vacant.reached

pub fill-requires-clause-roomy : goal.fill-requires-clause-roomy
fill-requires-clause-roomy c =
    let xs = c.self.inside.origins.items in
    let row = c.args.row.now in
    let kept = c.self.invariant in
    let gap : IsGap (origin_at xs row.origin.0).rows row c.args.place = gap_own c.self.inside.slots c.self.inside.most_rows c.self.inside.tabled c.self.inside.count xs row c.args.place kept (subst (λ (d : DemandState). IsGap (own_rows d.demand.rows row.origin.0) row c.args.place) (sym c.self.view_is) c.requires.gap) in
    let vacant : IsVacant c.self.inside.tabled xs row = vacant_in c.self.inside.slots c.self.inside.most_rows c.self.inside.tabled c.self.inside.count xs row kept (subst (λ (d : DemandState). has_place d row ≡ true) (sym c.self.view_is) c.requires.vacant) in
    let inside : row.origin.0 < length xs = vacant_inside c.self.inside.tabled xs row vacant in
    let read : c.index_mut-origin.result.now ≡ origin_at xs row.origin.0 = get_or_read xs row.origin.0 c.index_mut-origin.result.now inside c.index_mut-origin.ensures.value no_origin in
    subst (λ (o : OriginData). IsRoomy o.table (seen c.self.inside.tabled row) 0) (sym read) (roomy_was c.self.inside.slots c.self.inside.most_rows c.self.inside.tabled c.self.inside.count xs row 0 kept (none_joined c.self.inside.slots c.self.inside.most_rows c.self.inside.tabled c.self.inside.count xs row c.args.place kept gap))

pub invariant_of-self : goal.invariant_of-self
invariant_of-self c =
    let xs = c.self.inside.origins.items in
    let row = c.args.row.now in
    let kept = c.self.invariant in
    let gap : IsGap (origin_at xs row.origin.0).rows row c.args.place = gap_own c.self.inside.slots c.self.inside.most_rows c.self.inside.tabled c.self.inside.count xs row c.args.place kept (subst (λ (d : DemandState). IsGap (own_rows d.demand.rows row.origin.0) row c.args.place) (sym c.self.view_is) c.requires.gap) in
    let vacant : IsVacant c.self.inside.tabled xs row = vacant_in c.self.inside.slots c.self.inside.most_rows c.self.inside.tabled c.self.inside.count xs row kept (subst (λ (d : DemandState). has_place d row ≡ true) (sym c.self.view_is) c.requires.vacant) in
    let inside : row.origin.0 < length xs = vacant_inside c.self.inside.tabled xs row vacant in
    let read : c.index_mut-origin.result.now ≡ origin_at xs row.origin.0 = get_or_read xs row.origin.0 c.index_mut-origin.result.now inside c.index_mut-origin.ensures.value no_origin in
    let within : has_slots c.self.inside.slots row ≡ true = subst (λ (d : DemandState). has_slots d.demand.slots row ≡ true) (sym c.self.view_is) c.requires.slots in
    let few : length (rows_of xs) < c.self.inside.most_rows = subst (λ (d : DemandState). length d.demand.rows < d.demand.most_rows) (sym c.self.view_is) c.requires.few in
    let one : length (edited_rows (rows_of xs) row) ≡ length (rows_of xs) + 1 = subst (λ (d : DemandState). length (edited_rows d.demand.rows row) ≡ length d.demand.rows + 1) (sym c.self.view_is) (length_filled c.args.self.now.demand.rows row c.args.place c.requires.gap c.requires.some) in
    let rows : c.fill.new.self.rows ≡ edited_rows (origin_at xs row.origin.0).rows row = c.fill.ensures.rows ∙ ap (λ (o : OriginData). edited_rows o.rows row) read in
    let shifted : IsShifted (origin_at xs row.origin.0).table c.fill.new.self.table (seen c.self.inside.tabled row) 0 = subst (λ (o : OriginData). IsShifted o.table c.fill.new.self.table (seen c.self.inside.tabled row) 0) read c.fill.ensures.shifted in
    filled_kept c.self.inside.slots c.self.inside.most_rows c.self.inside.tabled c.self.inside.count xs row c.args.place kept gap c.fill.new.self inside within c.requires.small one few rows shifted vacant.reached

pub returns : goal.returns
returns c =
    let xs = c.self.inside.origins.items in
    let row = c.args.row.now in
    let kept = c.self.invariant in
    let gap : IsGap (origin_at xs row.origin.0).rows row c.args.place = gap_own c.self.inside.slots c.self.inside.most_rows c.self.inside.tabled c.self.inside.count xs row c.args.place kept (subst (λ (d : DemandState). IsGap (own_rows d.demand.rows row.origin.0) row c.args.place) (sym c.self.view_is) c.requires.gap) in
    let vacant : IsVacant c.self.inside.tabled xs row = vacant_in c.self.inside.slots c.self.inside.most_rows c.self.inside.tabled c.self.inside.count xs row kept (subst (λ (d : DemandState). has_place d row ≡ true) (sym c.self.view_is) c.requires.vacant) in
    let inside : row.origin.0 < length xs = vacant_inside c.self.inside.tabled xs row vacant in
    let read : c.index_mut-origin.result.now ≡ origin_at xs row.origin.0 = get_or_read xs row.origin.0 c.index_mut-origin.result.now inside c.index_mut-origin.ensures.value no_origin in
    let within : has_slots c.self.inside.slots row ≡ true = subst (λ (d : DemandState). has_slots d.demand.slots row ≡ true) (sym c.self.view_is) c.requires.slots in
    let few : length (rows_of xs) < c.self.inside.most_rows = subst (λ (d : DemandState). length d.demand.rows < d.demand.most_rows) (sym c.self.view_is) c.requires.few in
    let one : length (edited_rows (rows_of xs) row) ≡ length (rows_of xs) + 1 = subst (λ (d : DemandState). length (edited_rows d.demand.rows row) ≡ length d.demand.rows + 1) (sym c.self.view_is) (length_filled c.args.self.now.demand.rows row c.args.place c.requires.gap c.requires.some) in
    let rows : c.fill.new.self.rows ≡ edited_rows (origin_at xs row.origin.0).rows row = c.fill.ensures.rows ∙ ap (λ (o : OriginData). edited_rows o.rows row) read in
    let shifted : IsShifted (origin_at xs row.origin.0).table c.fill.new.self.table (seen c.self.inside.tabled row) 0 = subst (λ (o : OriginData). IsShifted o.table c.fill.new.self.table (seen c.self.inside.tabled row) 0) read c.fill.ensures.shifted in
    let all = subst (λ (d : DemandState). IsDone d (state_of c.self.inside.slots c.self.inside.most_rows c.self.inside.tabled (rows_of (set xs row.origin.0 c.fill.new.self)) (room_of (set xs row.origin.0 c.fill.new.self))) row 0) c.self.view_is
    (filled_done c.self.inside.slots c.self.inside.most_rows c.self.inside.tabled c.self.inside.count xs row c.args.place kept gap c.fill.new.self inside within c.requires.small one few rows shifted vacant.reached) in
    record {
      done = all.done;
      back = all.back;
      undo = all.undo;
      room = subst (λ (d : DemandState). (o : ℕ) → IsNoLess (room_at d.room o) (room_at (room_of (set xs row.origin.0 c.fill.new.self)) o)) c.self.view_is
          (room_set xs row.origin.0 c.fill.new.self inside (subst (λ (o : OriginData). IsNoLess (room_in o) (room_in c.fill.new.self)) read c.fill.ensures.places));
      tabled = ap (λ (d : DemandState). d.tabled) c.self.view_is;
    }
