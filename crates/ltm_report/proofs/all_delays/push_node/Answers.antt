use Rattle.std.proofs.lemmas.Result.{on_ok_weaker}
use Rattle.ltm_report.proofs.Rowed.{node_told}
use Rattle.ltm_report.proofs.all_delays.push_node.Goals as goal

pub returns : goal.returns
returns c =
    on_ok_weaker c.push_peak.result
    (λ wrote s version counts shows. node_told s counts c.args.node.0 c.origin_delay-delay.result _ _ _ (c.origin_delay-delay.ensures s version counts shows)
    c.in_ok-push_seconds.ensures wrote)
    c.push_peak.ensures
