use Rattle.std.proofs.Common.{◌≡◌, ◌+◌, ◌*◌, ◌≤◌, ◌<◌, ◌-◌, min, slice_index, length, arith, sym, ap, subst, ◌∙◌}
use Rattle.std.proofs.lemmas.List.{get_or_read}
use Rattle.ltm_demand.specs.Productions.{ProductionData, told}
use Rattle.ltm_demand.proofs.Told.{told_in, told_out, told_empty}
use Rattle.ltm_demand.proofs.production.Production.get.Goals as goal

pub returns-then-self-eq0 : goal.returns-then-self-eq0
returns-then-self-eq0 c =
    let empty : length c.self.inside.units.items ≡ 0 = omega (arith, c.self.inside.units.ok, c.self.invariant.0, ap (λ n. n * (c.self.inside.destinations + 1)) c.if-self-eq0.true) in
    sym (told_empty c.args.self.now c.args.column c.args.slot (ap (λ (t : ProductionData). length t.units) (sym c.self.view_is) ∙ empty))

pub returns-then-column-self : goal.returns-then-column-self
returns-then-column-self c = sym (told_out c.args.self.now c.args.column c.args.slot (subst (λ (t : ProductionData). t.destinations < c.args.column) c.self.view_is c.if-column-self.true))

pub returns : goal.returns
returns c =
    let below : c.args.column ≤ c.args.self.now.destinations = subst (λ (t : ProductionData). c.args.column ≤ t.destinations) c.self.view_is c.if-column-self.false in
    let long : length c.args.self.now.units ≡ length c.self.inside.units.items = ap (λ (t : ProductionData). length t.units) (sym c.self.view_is) in
    let inside : c.start.result + c.args.column < length c.self.inside.units.items = omega (arith, c.start.ensures.within, below, long) in
    subst (λ (t : ProductionData). c.args.column ≤ t.destinations → c.start.result ≡ min c.args.slot (t.slots - 1) * (t.destinations + 1) → c.index.result.now ≡ told t c.args.column c.args.slot) c.self.view_is
    (λ b place. get_or_read c.self.inside.units.items (c.start.result + c.args.column) c.index.result.now inside c.index.ensures 0 ∙ (ap (λ n. slice_index c.self.inside.units.items (n + c.args.column)) place ∙ sym (told_in (record { destinations = c.self.inside.destinations; slots = c.self.inside.slots; units = c.self.inside.units.items }) c.args.column c.args.slot b)))
    below c.start.ensures.place
