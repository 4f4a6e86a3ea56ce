use Rattle.std.proofs.Common.{◌≡◌, ℕ, ◌+◌, ◌-◌, ◌*◌, List, min, take, drop, slice_index, length, arith, sym, ap, ◌∙◌}
use Rattle.ltm_demand.proofs.Told.{row_told, told_empty}
use Rattle.ltm_demand.specs.Productions.{ProductionData, told}
use Rattle.std.proofs.Common.{subst}
use Rattle.ltm_demand.proofs.production.Production.whole_row.Goals as goal

pub returns-then-self-eq0-clause-row : goal.returns-then-self-eq0-clause-row
returns-then-self-eq0-clause-row c = λ column.
    let empty : length c.self.inside.units.items ≡ 0 = omega (arith, c.self.inside.units.ok, c.self.invariant.0, ap (λ n. n * (c.self.inside.destinations + 1)) c.if-self-eq0.true) in
    sym (told_empty c.args.self.now column c.args.slot (ap (λ (t : ProductionData). length t.units) (sym c.self.view_is) ∙ empty))

pub returns-clause-row : goal.returns-clause-row
returns-clause-row c = λ column.
    let start = c.start-start.result in
    let wide = c.self.inside.destinations + 1 in
    ap (λ (xs : List ℕ). slice_index (take (start + wide - start) (drop start xs)) column) c.deref.ensures.value
    ∙ subst (λ (t : ProductionData). start ≡ min c.args.slot (t.slots - 1) * (t.destinations + 1) → slice_index (take (start + wide - start) (drop start c.self.inside.units.items)) column ≡ told t column c.args.slot) c.self.view_is
    (λ place. row_told (record { destinations = c.self.inside.destinations; slots = c.self.inside.slots; units = c.self.inside.units.items }) start c.args.slot column place) c.start-start.ensures.place
