use Rattle.std.proofs.Common.{◌≡◌, drop}
use Rattle.ltm_search.specs.Links.{numbers}
use Rattle.ltm_search.specs.Search.{Visits, IsNoMore}
use Rattle.ltm_search.proofs.search.Search.visit.Given as goal

abbrev pub invariant-each : goal.invariant-each
invariant-each g l = record {
  visits : Visits (g.L.Links.ways l.links) (g.L.Links.bound l.links) l.self l.next (numbers (drop l.link-index l.leaving));
  first : l.self.first ≡ l.fn.self.first;
  effort : IsNoMore (g.L.Links.ways l.links) (g.L.Links.bound l.links) l.fn.self l.self;
}
