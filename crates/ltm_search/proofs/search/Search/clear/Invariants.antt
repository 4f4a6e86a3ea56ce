use Rattle.std.proofs.Common.{◌≡◌, ℕ, ◌<◌, None, length}
use Rattle.ltm_search.specs.Arrivals.{arrival_at}
use Rattle.ltm_search.proofs.search.Search.clear.Given as goal

abbrev pub invariant-loop-node : goal.invariant-loop-node
invariant-loop-node l = record {
  cleared : (node : ℕ) → node < l.node → arrival_at l.self.arrivals.items node ≡ None;
  long : length l.self.arrivals.items ≡ length l.fn.self.arrivals.items;
}
