use Rattle.std.proofs.Common.{◌≡◌, ◌<◌, ◌≤◌, ◌+◌, ◌∷◌, true, false, Some, length, slice_set, heap_items, sym, ap, subst, ◌∙◌}
use Rattle.std.specs.List.Sorted.{IsPermutation}
use Rattle.ltm_search.specs.declared.search.Waiting.{Waiting}
use Rattle.ltm_search.specs.Ways.{Ways}
use Rattle.ltm_search.specs.Arrivals.{arrival_at}
use Rattle.ltm_search.specs.Search.{millis, waiting, is_earlier, IsSearch, effort_of}
use Rattle.ltm_search.proofs.Arriving.{Arrives, arrived, tail_kept, kept_fits, effort_falls}
use Rattle.ltm_search.proofs.Searching.{looked_at}
use Rattle.ltm_search.proofs.search.Search.come.Goals as goal

pub returns-then-not-is_earlier-clause-search : goal.returns-then-not-is_earlier-clause-search
returns-then-not-is_earlier-clause-search g c = λ left visits.
    let w : Ways = g.L.Links.ways c.args.links.now in
    let a = c.args.self.now.arrivals.items in
    let at : arrival_at a (w.tail c.args.link.0) ≡ Some (millis c.args.next.time.0) = subst (λ n. arrival_at a n ≡ Some (millis c.args.next.time.0)) (sym c.requires.link.tail) visits.current in
    let later : is_earlier (arrival_at a (w.head c.args.link.0)) c.args.exit.0 ≡ false
    = subst (λ n. is_earlier (arrival_at a n) c.args.exit.0 ≡ false) c.head-head.ensures (sym c.is_earlier.ensures ∙ c.if-not-is_earlier.true) in
    record {
      search = looked_at w (g.L.Links.bound c.args.links.now) c.args.self.now.first.node c.args.self.now.first.time.0 a (heap_items c.args.self.now.waiting) c.args.link.0 left visits.search
          (kept_fits (w.leaves c.args.link.0) c.args.next.time.0 c.args.exit.0 (arrival_at a (w.tail c.args.link.0)) (arrival_at a (w.head c.args.link.0)) at c.requires.exit later);
      current = visits.current;
    }

pub returns-clause-search : goal.returns-clause-search
returns-clause-search g c = λ left visits.
    let w : Ways = g.L.Links.ways c.args.links.now in
    let bound = g.L.Links.bound c.args.links.now in
    let f = c.args.self.now.first in
    let a = c.args.self.now.arrivals.items in
    let q' = heap_items c.arrive.new.self.waiting in
    let at : arrival_at a (w.tail c.args.link.0) ≡ Some (millis c.args.next.time.0) = subst (λ n. arrival_at a n ≡ Some (millis c.args.next.time.0)) (sym c.requires.link.tail) visits.current in
    let earlier : is_earlier (arrival_at a (w.head c.args.link.0)) c.args.exit.0 ≡ true = subst (λ n. is_earlier (arrival_at a n) c.args.exit.0 ≡ true) c.head-head.ensures (sym c.is_earlier.ensures ∙ c.if-not-is_earlier.false) in
    let h : Arrives w bound f.node f.time.0 a (heap_items c.args.self.now.waiting) q' c.args.link.0 left c.args.next.time.0 c.args.exit.0
    = record {
      ways = c.keep_ways.ensures;
      low = c.requires.link.low;
      search = visits.search;
      at_tail = at;
      is = c.requires.exit;
      earlier = earlier;
      put = subst (λ n. IsPermutation (waiting c.args.exit.0 n ∷ heap_items c.args.self.now.waiting) q') c.head-head.ensures c.in_ok-arrive.ensures.waiting;
    } in
    let set : c.arrive.new.self.arrivals.items ≡ slice_set a (w.head c.args.link.0) (Some (millis c.args.exit.0)) = c.in_ok-arrive.ensures.arrivals ∙ ap (λ n. slice_set a n (Some (millis c.args.exit.0))) c.head-head.ensures in
    record {
      search = subst (λ (x : Waiting). IsSearch w bound x.node x.time.0 c.arrive.new.self.arrivals.items q' left) (sym c.in_ok-arrive.ensures.first)
          (subst (λ b. IsSearch w bound f.node f.time.0 b q' left) (sym set) (arrived w bound f.node f.time.0 a (heap_items c.args.self.now.waiting) q' c.args.link.0 left c.args.next.time.0 c.args.exit.0 h));
      current = subst (λ b. arrival_at b c.args.next.node ≡ Some (millis c.args.next.time.0)) (sym set)
          (subst (λ n. arrival_at (slice_set a (w.head c.args.link.0) (Some (millis c.args.exit.0))) n ≡ Some (millis c.args.next.time.0)) c.requires.link.tail
          (tail_kept w bound a c.args.link.0 c.args.next.time.0 c.args.exit.0 c.keep_ways.ensures c.requires.link.low at c.requires.exit earlier));
    }

pub returns-clause-effort : goal.returns-clause-effort
returns-clause-effort g c =
    let w : Ways = g.L.Links.ways c.args.links.now in
    let a = c.args.self.now.arrivals.items in
    let last = g.L.Links.bound c.args.links.now (w.nodes + 1) in
    let ways = c.keep_ways.ensures in
    let there : c.head-head.result.0 < w.nodes = subst (λ n. n < w.nodes) (sym c.head-head.ensures) (ways.heads c.args.link.0 c.requires.link.low) in
    let low : c.head-head.result.0 < length a = subst (λ n. c.head-head.result.0 < n) (sym c.requires.link.one_for_each) there in
    let small : c.args.exit.0 ≤ last = ways.within c.args.link.0 w.nodes c.args.next.time.0 c.args.exit.0 c.requires.link.low c.requires.link.moment c.requires.exit in
    subst (λ b. effort_of last b (heap_items c.arrive.new.self.waiting) ≤ effort_of last a (heap_items c.args.self.now.waiting)) (sym c.in_ok-arrive.ensures.arrivals)
    (effort_falls last a (heap_items c.args.self.now.waiting) (heap_items c.arrive.new.self.waiting) c.head-head.result.0 c.args.exit.0 low small (sym c.is_earlier.ensures ∙ c.if-not-is_earlier.false) c.in_ok-arrive.ensures.waiting)
