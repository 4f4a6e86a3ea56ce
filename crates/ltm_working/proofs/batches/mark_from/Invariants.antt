use Rattle.std.proofs.Common.{◌&&◌, nat_le, nat_lt}
use Rattle.ltm_frontier.specs.Frontier.{Activates}
use Rattle.ltm_working.proofs.batches.mark_from.Given as goal

abbrev pub invariant-loop-node : goal.invariant-loop-node
invariant-loop-node l = Activates l.fn.frontier l.frontier (λ u t. nat_lt u l.node && nat_le l.from t)
