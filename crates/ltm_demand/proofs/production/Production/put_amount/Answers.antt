use Rattle.std.proofs.Common.{◌≡◌, ℕ, ◌+◌, ◌*◌, ◌≤◌, List, length, slice_index, refl, arith, sym, ap, subst, ◌∙◌}
use Rattle.std.specs.Vec.{with_items}
use Rattle.std.proofs.lemmas.List.{with_items_is}
use Rattle.ltm_demand.specs.Productions.{ProductionData, told, IsReached, IsRoomy, IsShifted}
use Rattle.ltm_demand.proofs.Cells.{is_below}
use Rattle.ltm_demand.proofs.Told.{told_at, row_shifted}
use Rattle.ltm_demand.proofs.production.Production.put_amount.Goals as goal

pub shift-requires-clause-has : goal.shift-requires-clause-has
shift-requires-clause-has c =
    λ k t which inside.
    let old : ProductionData = record { destinations = c.self.inside.destinations; slots = c.self.inside.slots; units = c.self.inside.units.items } in
    let row = c.args.row.now in
    let reached : IsReached old row = subst (λ (d : ProductionData). IsReached d row) (sym c.self.view_is) c.requires.reached in
    let roomy : IsRoomy old row c.args.was = subst (λ (d : ProductionData). IsRoomy d row c.args.was) (sym c.self.view_is) c.requires.roomy in
    let below : k ≤ old.destinations = omega (arith, is_below (old.destinations + 1) (row.destination + 1) k (omega (arith, reached.destination)) which) in
    let at : slice_index c.deref_mut.result.now (t * (old.destinations + 1) + k) ≡ told old k t = ap (λ (xs : List ℕ). slice_index xs (t * (old.destinations + 1) + k)) c.deref_mut.ensures.value ∙ sym (told_at old k t below inside) in
    omega (arith, at, roomy.has k t which)

pub shift-requires-clause-room : goal.shift-requires-clause-room
shift-requires-clause-room c =
    λ k t which inside.
    let old : ProductionData = record { destinations = c.self.inside.destinations; slots = c.self.inside.slots; units = c.self.inside.units.items } in
    let row = c.args.row.now in
    let reached : IsReached old row = subst (λ (d : ProductionData). IsReached d row) (sym c.self.view_is) c.requires.reached in
    let roomy : IsRoomy old row c.args.was = subst (λ (d : ProductionData). IsRoomy d row c.args.was) (sym c.self.view_is) c.requires.roomy in
    let below : k ≤ old.destinations = omega (arith, is_below (old.destinations + 1) (row.destination + 1) k (omega (arith, reached.destination)) which) in
    let at : slice_index c.deref_mut.result.now (t * (old.destinations + 1) + k) ≡ told old k t = ap (λ (xs : List ℕ). slice_index xs (t * (old.destinations + 1) + k)) c.deref_mut.ensures.value ∙ sym (told_at old k t below inside) in
    omega (arith, at, roomy.room k t which)

pub returns : goal.returns
returns c =
    let old : ProductionData = record { destinations = c.self.inside.destinations; slots = c.self.inside.slots; units = c.self.inside.units.items } in
    let row = c.args.row.now in
    let reached : IsReached old row = subst (λ (d : ProductionData). IsReached d row) (sym c.self.view_is) c.requires.reached in
    let made : List ℕ → ProductionData = λ units. record { destinations = c.self.inside.destinations; slots = c.self.inside.slots; units = units } in
    let len : length c.shift.new.units ≡ c.self.inside.units.len = omega (arith, c.shift.ensures.len, ap length c.deref_mut.ensures.value, c.self.inside.units.ok) in
    let stands = with_items_is c.self.inside.units c.shift.new.units len in
    let first : (k : ℕ) → slice_index c.deref_mut.result.now k ≡ slice_index old.units k = λ k. ap (λ (xs : List ℕ). slice_index xs k) c.deref_mut.ensures.value in
    subst (λ (d : ProductionData). IsShifted d (made (with_items c.self.inside.units c.shift.new.units).items) row c.args.was) c.self.view_is
    (subst (λ (units : List ℕ). IsShifted old (made units) row c.args.was) (sym stands)
    (row_shifted old (made c.shift.new.units) refl refl row c.args.was reached.destination c.requires.slots reached.end
    (λ k t which inside. omega (arith, c.shift.ensures.shifted k t which inside, first (t * (old.destinations + 1) + k)))
    (λ k t under zeroth other. c.shift.ensures.others k t under zeroth other ∙ first (t * (old.destinations + 1) + k))))
