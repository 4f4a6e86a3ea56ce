use Rattle.ltm_frontier.proofs.Counting.{none_marked_count}
use Rattle.ltm_frontier.proofs.claims.Claims.create.Goals as goal

pub invariant_of-result : goal.invariant_of-result
invariant_of-result c = record { one_row = c.in_ok-nodes.ensures.rows; counted = none_marked_count _ (λ u. c.in_ok-nodes.ensures.none u 0) }
