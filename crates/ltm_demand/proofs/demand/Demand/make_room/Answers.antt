use Rattle.std.proofs.Common.{◌≡◌, ℕ, ◌<◌, List, length, set, Result, Ok, Err, arith, ap, sym, subst, ◌∙◌}
use Rattle.std.specs.Prelude.{OnOk}
use Rattle.std.proofs.lemmas.List.{get_or_read, get_or-set_same}
use Rattle.ltm_demand.specs.declared.row.DemandRow.{DemandRow}
use Rattle.ltm_demand.specs.Rows.{DemandData, DemandState, IsNoLess, room_at}
use Rattle.ltm_demand.specs.Productions.{seen, told, IsReached}
use Rattle.ltm_demand.specs.Origins.{OriginData, no_origin, origin_at, IsAlike}
use Rattle.ltm_demand.specs.Kept.{IsKept, room_in, room_of}
use Rattle.ltm_demand.proofs.KeptOrigins.{kept_alike, alike_set, rows_set, room_alike, room_set, no_less_through}
use Rattle.ltm_demand.proofs.Changes.{has_place_in}
use Rattle.ltm_demand.proofs.demand.Demand.make_room.Goals as goal

abbrev made : ℕ → ℕ → List DemandRow → DemandData
made slots most rows = record { slots = slots; most_rows = most; rows = rows }

all_three : {A E : Type 0} (r : Result A E) (P Q R S : Type 0) → OnOk r P → OnOk r Q → OnOk r R → (P → Q → R → S) → OnOk r S
all_three (Ok a) P Q R S p q r f = f p q r
all_three (Err e) P Q R S p q r f = tt

pub returns-in_err-make_origins-clause-room : goal.returns-in_err-make_origins-clause-room
returns-in_err-make_origins-clause-room c =
    subst (λ (d : DemandState). (o : ℕ) → IsNoLess (room_at d.room o) (room_at (room_of c.make_origins.new.origins.items) o)) c.self.view_is
    (room_alike c.self.inside.origins.items c.make_origins.new.origins.items c.make_origins.ensures.alike c.make_origins.ensures.places)

pub invariant_of-self-2 : goal.invariant_of-self-2
invariant_of-self-2 c =
    let xs = c.self.inside.origins.items in
    let ys = c.make_origins.new.origins.items in
    let i = c.args.row.now.origin.0 in
    let x = c.make_room.new.self in
    let inside : i < length ys = omega (arith, c.in_ok-make_origins.ensures.ok, c.make_origins.new.origins.ok) in
    let read : c.index_mut-origin.result.now ≡ origin_at ys i = get_or_read ys i c.index_mut-origin.result.now inside c.index_mut-origin.ensures.value no_origin in
    let keeps : IsNoLess (room_in (origin_at ys i)) (room_in x) = subst (λ (o : OriginData). IsNoLess (room_in o) (room_in x)) read c.make_room.ensures.places in
    let rows : x.rows ≡ (origin_at ys i).rows = c.make_room.ensures.rows ∙ ap (λ (o : OriginData). o.rows) read in
    let is : IsAlike (origin_at ys i) x = record { rows = rows; told = subst (λ (o : OriginData). (k t : ℕ) → told x.table k t ≡ told o.table k t) read c.make_room.ensures.same; destinations = keeps.destinations; slots = keeps.slots } in
    let first : IsKept c.self.inside.slots c.self.inside.most_rows c.self.inside.tabled c.self.inside.count ys = kept_alike c.self.inside.slots c.self.inside.most_rows c.self.inside.tabled c.self.inside.count xs ys c.make_origins.ensures.alike c.make_origins.ensures.rows c.self.invariant in
    let last : IsKept c.self.inside.slots c.self.inside.most_rows c.self.inside.tabled c.self.inside.count (set ys i x) = kept_alike c.self.inside.slots c.self.inside.most_rows c.self.inside.tabled c.self.inside.count ys (set ys i x) (alike_set ys i x inside is) (rows_set ys i x inside rows) first in
    last

pub returns-clause-demand : goal.returns-clause-demand
returns-clause-demand c =
    let xs = c.self.inside.origins.items in
    let ys = c.make_origins.new.origins.items in
    let i = c.args.row.now.origin.0 in
    let x = c.make_room.new.self in
    let inside : i < length ys = omega (arith, c.in_ok-make_origins.ensures.ok, c.make_origins.new.origins.ok) in
    let read : c.index_mut-origin.result.now ≡ origin_at ys i = get_or_read ys i c.index_mut-origin.result.now inside c.index_mut-origin.ensures.value no_origin in
    let rows : x.rows ≡ (origin_at ys i).rows = c.make_room.ensures.rows ∙ ap (λ (o : OriginData). o.rows) read in
    ap (λ rows. made c.self.inside.slots c.self.inside.most_rows rows) (rows_set ys i x inside rows ∙ c.make_origins.ensures.rows) ∙ ap (λ (d : DemandState). d.demand) c.self.view_is

pub returns-clause-ok : goal.returns-clause-ok
returns-clause-ok c =
    let xs = c.self.inside.origins.items in
    let ys = c.make_origins.new.origins.items in
    let i = c.args.row.now.origin.0 in
    let x = c.make_room.new.self in
    let inside : i < length ys = omega (arith, c.in_ok-make_origins.ensures.ok, c.make_origins.new.origins.ok) in
    let read : c.index_mut-origin.result.now ≡ origin_at ys i = get_or_read ys i c.index_mut-origin.result.now inside c.index_mut-origin.ensures.value no_origin in
    let keeps : IsNoLess (room_in (origin_at ys i)) (room_in x) = subst (λ (o : OriginData). IsNoLess (room_in o) (room_in x)) read c.make_room.ensures.places in
    let rows : x.rows ≡ (origin_at ys i).rows = c.make_room.ensures.rows ∙ ap (λ (o : OriginData). o.rows) read in
    let is : IsAlike (origin_at ys i) x = record { rows = rows; told = subst (λ (o : OriginData). (k t : ℕ) → told x.table k t ≡ told o.table k t) read c.make_room.ensures.same; destinations = keeps.destinations; slots = keeps.slots } in
    let first : IsKept c.self.inside.slots c.self.inside.most_rows c.self.inside.tabled c.self.inside.count ys = kept_alike c.self.inside.slots c.self.inside.most_rows c.self.inside.tabled c.self.inside.count xs ys c.make_origins.ensures.alike c.make_origins.ensures.rows c.self.invariant in
    let last : IsKept c.self.inside.slots c.self.inside.most_rows c.self.inside.tabled c.self.inside.count (set ys i x) = kept_alike c.self.inside.slots c.self.inside.most_rows c.self.inside.tabled c.self.inside.count ys (set ys i x) (alike_set ys i x inside is) (rows_set ys i x inside rows) first in
    let here : origin_at (set ys i x) i ≡ x = get_or-set_same ys i x no_origin inside in
    all_three c.make_room.result _ _ _ _ c.make_room.ensures.vacant c.make_room.ensures.destination c.make_room.ensures.end (λ vacant destination end.
    has_place_in c.self.inside.slots c.self.inside.most_rows c.self.inside.tabled (set ys i x) c.args.row.now last.own (subst (λ (y : OriginData). length y.rows < y.places) (sym here) vacant)
    (subst (λ (y : OriginData). IsReached y.table (seen c.self.inside.tabled c.args.row.now)) (sym here) (record { destination = destination; end = end })))

pub returns-clause-room : goal.returns-clause-room
returns-clause-room c =
    let xs = c.self.inside.origins.items in
    let ys = c.make_origins.new.origins.items in
    let i = c.args.row.now.origin.0 in
    let x = c.make_room.new.self in
    let inside : i < length ys = omega (arith, c.in_ok-make_origins.ensures.ok, c.make_origins.new.origins.ok) in
    let read : c.index_mut-origin.result.now ≡ origin_at ys i = get_or_read ys i c.index_mut-origin.result.now inside c.index_mut-origin.ensures.value no_origin in
    let keeps : IsNoLess (room_in (origin_at ys i)) (room_in x) = subst (λ (o : OriginData). IsNoLess (room_in o) (room_in x)) read c.make_room.ensures.places in
    subst (λ (d : DemandState). (o : ℕ) → IsNoLess (room_at d.room o) (room_at (room_of (set ys i x)) o)) c.self.view_is
    (λ o. no_less_through (room_at (room_of xs) o) (room_at (room_of ys) o) (room_at (room_of (set ys i x)) o) (room_alike xs ys c.make_origins.ensures.alike c.make_origins.ensures.places o) (room_set ys i x inside keeps o))
