use Rattle.std.proofs.lemmas.Result.{on_ok_weaker}
use Rattle.ltm_report.proofs.Delayed.{origin_shown}
use Rattle.ltm_report.proofs.origins.origin_text.Goals as goal

pub returns-clause-ok : goal.returns-clause-ok
returns-clause-ok c =
    on_ok_weaker c.origin_line_text.result
    (origin_shown c.args.loading.now c.args.node.0 c.args.name.now c.version.result c.args.boundary c.origin_state-state.result _ _ c.version.ensures c.origin_state-state.ensures)
    c.origin_line_text.ensures.ok
