use Rattle.std.proofs.Common.{rules}
use Rattle.std.proofs.lemmas.Result.{on_ok_weaker}
use Rattle.ltm_flows.specs.Origins.{produced_in_all, departed_from}
use Rattle.ltm_report.proofs.Rowed.{departures_told}
use Rattle.ltm_report.proofs.rows.push_departures.Goals as goal

pub returns : goal.returns
returns c =
    on_ok_weaker c.push_newline.result
    (departures_told c.args.loading.now c.args.name.now c.args.node.0 c.version.result c.slots-boundaries.result _ _ _ _ _ _ _
    c.version.ensures c.slots-boundaries.ensures c.in_ok-push_version.ensures c.in_ok-push_text.ensures.ok c.in_ok-push_node.ensures
    (λ s version counts shows. c.in_ok-push_row.ensures (produced_in_all s c.args.node.0) (λ k n less post. search rules))
    (λ s version counts shows. c.in_ok-push_row-2.ensures (departed_from s counts c.args.node.0) (λ k n less post. search rules)))
    c.push_newline.ensures
