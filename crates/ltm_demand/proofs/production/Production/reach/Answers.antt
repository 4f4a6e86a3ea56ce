use Rattle.std.proofs.Common.{◌≡◌, ℕ, ◌+◌, ◌*◌, ◌≤◌, slice_index, ◌<◌, arith, subst}
use Rattle.ltm_demand.specs.Productions.{ProductionData, told}
use Rattle.ltm_demand.proofs.Told.{told_spread}
use Rattle.ltm_demand.proofs.production.Production.reach.Goals as goal

pub returns-clause-same : goal.returns-clause-same
returns-clause-same c =
    let old : ProductionData = record { destinations = c.self.inside.destinations; slots = c.self.inside.slots; units = c.self.inside.units.items } in
    let new : ProductionData = record { destinations = c.grown-destinations.result; slots = c.grown-slots.result; units = c.in_ok-units.units.items } in
    subst (λ (t : ProductionData). ((column slot : ℕ) → column ≤ new.destinations → slot < new.slots → slice_index new.units (slot * (new.destinations + 1) + column) ≡ told t column slot) → (column slot : ℕ) → told new column slot ≡ told t column slot) c.self.view_is
    (told_spread old new c.grown-destinations.ensures.no_fewer c.grown-slots.ensures.no_fewer (omega (arith, c.in_ok-units.units.ok, c.in_ok-units.ensures.len)) (omega (arith, c.self.inside.units.ok, c.self.invariant.0))) c.in_ok-units.ensures.told
