use Rattle.std.proofs.Common.{rules}
use Rattle.std.proofs.lemmas.Result.{on_ok_weaker}
use Rattle.ltm_times.specs.Queues.{queue, waiting_at}
use Rattle.ltm_report.proofs.Rowed.{two_rows}
use Rattle.ltm_report.proofs.rows.push_standing.Goals as goal

pub returns : goal.returns
returns c =
    let boundary = c.args.boundary in
    on_ok_weaker c.push_row-2.result
    (λ wrote s version counts shows.
    two_rows c.links.result c.nodes.result _ _ _ _ _ _ _ _ _ c.links.ensures.value c.nodes.ensures
    (c.in_ok-push_row.ensures (λ link. queue s counts link boundary) (λ k n less post. search rules))
    (wrote (λ node. waiting_at s counts node boundary) (λ k n less post. search rules)))
    c.push_row-2.ensures
