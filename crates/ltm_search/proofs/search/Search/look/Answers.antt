use Rattle.std.proofs.Common.{◌≡◌, ℕ, List, [], ◌∷◌, length, Option, heap_items, sym, subst, arith, ◌∙◌}
use Rattle.ltm_units.specs.declared.quantities.Millis.{Millis}
use Rattle.ltm_search.specs.declared.search.Waiting.{Waiting}
use Rattle.ltm_search.specs.Ways.{Ways, AreWays}
use Rattle.ltm_search.specs.Arrivals.{AreEarliest}
use Rattle.ltm_search.specs.Search.{IsSearch}
use Rattle.ltm_search.proofs.Searching.{reordered, all_fit, all_by}
use Rattle.ltm_search.proofs.Certified.{certified}
use Rattle.ltm_search.proofs.search.Search.look.Goals as goal

pub visit-requires-clause-search : goal.visit-requires-clause-search
visit-requires-clause-search g c =
    let s = c.all.self in
    reordered (g.L.Links.ways c.args.links.now) (g.L.Links.bound c.args.links.now) s.first.node s.first.time.0 s.arrivals.items (heap_items s.waiting) (c.in-Some.next ∷ heap_items c.pop.new.self) []
    c.in-Some.ensures.permutation c.all.invariant.search

ended : (w : Ways) (bound : ℕ → ℕ) (from start : ℕ) (a : List (Option Millis)) (q : List Waiting) → AreWays w bound → length q ≡ 0 → IsSearch w bound from start a q [] → AreEarliest w from start a
ended w bound from start a [] ways none s = certified w bound from start a ways s.begun (all_fit w bound from start a s) s.taken
ended w bound from start a (x ∷ q) ways none s = absurd (omega arith)

pub returns-clause-earliest : goal.returns-clause-earliest
returns-clause-earliest g c =
    let s = c.all.self in
    let ok = s.waiting.data.ok in
    let w : Ways = g.L.Links.ways c.args.links.now in
    subst (λ (x : Waiting). AreEarliest w x.node x.time.0 s.arrivals.items) c.all.invariant.first
    (ended w (g.L.Links.bound c.args.links.now) s.first.node s.first.time.0 s.arrivals.items (heap_items s.waiting) c.keep_ways.ensures (sym ok.0 ∙ c.in_default.ensures.none) c.all.invariant.search)

pub returns-clause-by : goal.returns-clause-by
returns-clause-by g c =
    let s = c.all.self in
    all_by (g.L.Links.ways c.args.links.now) (g.L.Links.bound c.args.links.now) s.first.node s.first.time.0 s.arrivals.items (heap_items s.waiting) [] c.keep_ways.ensures c.all.invariant.search
