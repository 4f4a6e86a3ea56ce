use Rattle.ltm_frontier.specs.Claims.{AddsClaims}
use Rattle.ltm_frontier.proofs.claims.Claims.mark_all.Given as goal

abbrev pub invariant-loop-node : goal.invariant-loop-node
invariant-loop-node l = AddsClaims l.self l.fn.marks l.marks l.node
