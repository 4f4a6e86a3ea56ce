use Rattle.std.proofs.Common.{◌≡◌, ap, sym, ◌∙◌, None, Some}
use Rattle.ltm_network.specs.Names.{stands_at, place_of}
use Rattle.ltm_network.proofs.Finding.{place_here, place_nowhere, some_same}
use Rattle.ltm_network.proofs.names.Names.find.Goals as goal

pub returns-then-stands_at : goal.returns-then-stands_at
returns-then-stands_at c =
    sym (ap (λ names. place_of names c.args.name.now) (sym c.self.view_is) ∙ place_here c.self.inside.list.items c.self.inside.places c.args.name.now c.in-Some.place.now c.self.invariant (sym c.in-Some.ensures.value)
    (ap (λ names. stands_at names c.in-Some.place.now c.args.name.now) c.self.view_is ∙ sym c.if-stands_at.ensures))

pub returns-else-stands_at : goal.returns-else-stands_at
returns-else-stands_at c =
    sym (ap (λ names. place_of names c.args.name.now) (sym c.self.view_is) ∙ place_nowhere c.self.inside.list.items c.self.inside.places c.args.name.now c.self.invariant (λ j is.
    let e = some_same _ _ (c.in-Some.ensures.value ∙ is) in
    ap (λ k. stands_at c.self.inside.list.items k c.args.name.now) (sym e) ∙ ap (λ names. stands_at names c.in-Some.place.now c.args.name.now) c.self.view_is ∙ sym c.if-stands_at.ensures))

pub returns-in-None : goal.returns-in-None
returns-in-None c =
    sym (ap (λ names. place_of names c.args.name.now) (sym c.self.view_is) ∙ place_nowhere c.self.inside.list.items c.self.inside.places c.args.name.now c.self.invariant (λ j is.
    let e : ◌≡◌ (Some j) None = sym (c.in-None.ensures.value ∙ is) in cc))
