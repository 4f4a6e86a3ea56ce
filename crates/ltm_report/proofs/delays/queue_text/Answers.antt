use Rattle.std.proofs.lemmas.Result.{on_ok_weaker}
use Rattle.ltm_report.proofs.Delayed.{queue_shown}
use Rattle.ltm_report.proofs.delays.queue_text.Goals as goal

pub returns-clause-ok : goal.returns-clause-ok
returns-clause-ok c =
    on_ok_weaker c.queue_line_text.result
    (queue_shown c.args.loading.now c.args.link.0 c.args.name.now c.version.result c.args.boundary c.link_state-state.result _ _ c.version.ensures c.link_state-state.ensures)
    c.queue_line_text.ensures.ok
