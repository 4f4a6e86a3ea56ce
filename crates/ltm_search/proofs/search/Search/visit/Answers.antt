use Rattle.std.proofs.Common.{◌≡◌, ◌+◌, ℕ, List, [], ◌∷◌, heap_items, drop, true, false, sym, subst, arith, slice_index_or, ◌∙◌, refl}
use Rattle.ltm_units.specs.declared.places.LinkId.{LinkId}
use Rattle.ltm_search.specs.Ways.{Ways}
use Rattle.ltm_search.specs.Links.{numbers}
use Rattle.ltm_search.specs.Arrivals.{arrival_at}
use Rattle.ltm_search.specs.Search.{Visits}
use Rattle.ltm_search.proofs.Leaving.{no_link, numbers_drop}
use Rattle.ltm_search.proofs.Searching.{popped, current_is, moment_by}
use Rattle.ltm_search.proofs.search.Search.visit.Goals as goal

differ : false ≡ true → ⊥
differ e = cc

pub returns-then-not-is_current-clause-search : goal.returns-then-not-is_current-clause-search
returns-then-not-is_current-clause-search g c =
    let s = c.args.self.now in
    popped (g.L.Links.ways c.args.links.now) (g.L.Links.bound c.args.links.now) s.first.node s.first.time.0 s.arrivals.items (heap_items s.waiting) c.args.next [] c.requires.search
    (λ link low at current. let e : false ≡ true = sym c.if-not-is_current.true ∙ c.is_current.ensures ∙ current in absurd (differ e))

pub each-init : goal.each-init
each-init g c =
    let s = c.args.self.now in
    record {
      visits = record {
        search = popped (g.L.Links.ways c.args.links.now) (g.L.Links.bound c.args.links.now) s.first.node s.first.time.0 s.arrivals.items (heap_items s.waiting) c.args.next (numbers c.leaving-leaving.result.now) c.requires.search
            (λ link low at current. c.leaving-leaving.ensures.all link low at);
        current = current_is (arrival_at s.arrivals.items c.args.next.node) c.args.next.time.0 (sym c.is_current.ensures ∙ c.if-not-is_current.false);
      };
      first = refl;
      effort = omega arith;
    }

pub relax-requires-clause-link : goal.relax-requires-clause-link
relax-requires-clause-link g c =
    let w : Ways = g.L.Links.ways c.args.links.now in
    let here = c.leaving-leaving.ensures.each c.each.link-index no_link c.each-test.true in
    let s = c.each.self in
    record {
      one_for_each = c.each.invariant.visits.search.one_for_each;
      low = here.0;
      tail = here.1;
      moment = moment_by w (g.L.Links.bound c.args.links.now) s.first.node s.first.time.0 s.arrivals.items (heap_items s.waiting) (numbers (drop c.each.link-index c.leaving-leaving.result.now)) c.args.next.node c.args.next.time.0
          c.keep_ways.ensures c.each.invariant.visits.search c.each.invariant.visits.current;
    }

pub each-preserved : goal.each-preserved
each-preserved g c =
    let w : Ways = g.L.Links.ways c.args.links.now in
    let links : List LinkId = c.leaving-leaving.result.now in
    let i : ℕ = c.each.link-index in
    let left : Visits w (g.L.Links.bound c.args.links.now) c.each.self c.args.next ((slice_index_or links i no_link).0 ∷ numbers (drop (i + 1) links))
    = subst (λ ls. Visits w (g.L.Links.bound c.args.links.now) c.each.self c.args.next ls) (numbers_drop links i c.each-test.true) c.each.invariant.visits in
    let effort = c.in_ok-relax.ensures.effort in
    let before = c.each.invariant.effort in
    record {
      visits = c.in_ok-relax.ensures.search (numbers (drop (i + 1) links)) left;
      first = c.in_ok-relax.ensures.first ∙ c.each.invariant.first;
      effort = omega arith;
    }
