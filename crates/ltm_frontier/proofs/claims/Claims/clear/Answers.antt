use Rattle.std.proofs.Common.{◌∙◌}
use Rattle.ltm_frontier.proofs.Counting.{none_marked_count}
use Rattle.ltm_frontier.proofs.claims.Claims.clear.Goals as goal

pub invariant_of-self : goal.invariant_of-self
invariant_of-self c = record { one_row = c.clear.ensures.rows ∙ c.args.self.now.one_row; counted = none_marked_count _ (λ u. c.clear.ensures.none u 0) }
