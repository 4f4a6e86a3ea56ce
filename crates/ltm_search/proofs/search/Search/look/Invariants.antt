use Rattle.std.proofs.Common.{◌≡◌, []}
use Rattle.ltm_search.specs.Search.{Searches, effort}
use Rattle.ltm_search.proofs.search.Search.look.Given as goal

abbrev pub invariant-all : goal.invariant-all
invariant-all g l = record {
  search : Searches (g.L.Links.ways l.links) (g.L.Links.bound l.links) l.self [];
  first : l.self.first ≡ l.fn.self.first;
}

abbrev pub decreases-all : goal.decreases-all
decreases-all g l = effort (g.L.Links.ways l.links) (g.L.Links.bound l.links) l.self
