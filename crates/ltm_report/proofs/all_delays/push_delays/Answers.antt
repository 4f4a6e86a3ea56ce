use Rattle.std.proofs.lemmas.Result.{on_ok_weaker}
use Rattle.ltm_report.proofs.Rowed.{delays_told}
use Rattle.ltm_report.proofs.all_delays.push_delays.Goals as goal

pub returns : goal.returns
returns c =
    on_ok_weaker c.push_newline.result
    (delays_told c.args.loading.now c.version.result c.time_spent.result c.in_ok-queued.queued c.waited.result _ _ _ _ _ _ _ _ _ _ _ _ c.version.ensures
    c.time_spent.ensures c.in_ok-queued.ensures.queued c.waited.ensures c.new-links.ensures.items c.in_ok-queued.ensures.text
    c.in_ok-push_version.ensures c.in_ok-push_spent.ensures c.in_ok-push_waited.ensures c.in_ok-push_text.ensures.ok c.as_slice.ensures.value
    c.in_ok-push_text-2.ensures.ok c.in_ok-push_text-3.ensures.ok c.in_ok-push_nodes.ensures)
    c.push_newline.ensures
