use Rattle.std.proofs.Common.{arith}
use Rattle.ltm_frontier.proofs.Counting.{none_counted}
use Rattle.ltm_frontier.proofs.claims.Claims.first.Goals as goal

pub returns-then-self-eq0 : goal.returns-then-self-eq0
returns-then-self-eq0 c = none_counted c.args.self.now.nodes (omega (arith, c.args.self.now.counted, c.if-self-eq0.true))
