use Rattle.std.proofs.Common.{◌∷◌, [], OnOk, heap_items, sym, subst, ◌∙◌}
use Rattle.std.specs.List.Sorted.{IsPermutation}
use Rattle.ltm_search.specs.declared.search.Waiting.{Waiting}
use Rattle.ltm_search.specs.Arrivals.{AreEarliest}
use Rattle.ltm_search.specs.Search.{IsSearch, waiting}
use Rattle.ltm_search.proofs.Searching.{begins}
use Rattle.ltm_search.proofs.search.Search.run.Goals as goal

pub look-requires-clause-search : goal.look-requires-clause-search
look-requires-clause-search g c =
    let w = g.L.Links.ways c.args.links.now in
    let bound = g.L.Links.bound c.args.links.now in
    let q = heap_items c.arrive.new.self.waiting in
    let put : IsPermutation (waiting c.args.start.0 c.args.from.0 ∷ []) q = subst (λ q0. IsPermutation (waiting c.args.start.0 c.args.from.0 ∷ q0) q) c.clear.ensures.idle c.in_ok-arrive.ensures.waiting in
    subst (λ (x : Waiting). IsSearch w bound x.node x.time.0 c.arrive.new.self.arrivals.items q []) (sym c.in_ok-arrive.ensures.first)
    (begins w bound c.args.from.0 c.args.start.0 c.clear.new.self.arrivals.items c.arrive.new.self.arrivals.items q c.keep_ways.ensures (c.clear.ensures.one_for_each ∙ c.requires.one_for_each)
    c.clear.ensures.arrivals c.requires.from c.requires.start c.in_ok-arrive.ensures.arrivals put)

pub returns-clause-earliest : goal.returns-clause-earliest
returns-clause-earliest g c =
    subst (λ (x : Waiting). OnOk c.look.result (AreEarliest (g.L.Links.ways c.args.links.now) x.node x.time.0 c.look.new.self.arrivals.items)) c.in_ok-arrive.ensures.first c.look.ensures.earliest
