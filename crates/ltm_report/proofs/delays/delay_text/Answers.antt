use Rattle.std.proofs.lemmas.Result.{on_ok_weaker}
use Rattle.ltm_report.proofs.Delayed.{delay_shown}
use Rattle.ltm_report.proofs.delays.delay_text.Goals as goal

pub returns-clause-ok : goal.returns-clause-ok
returns-clause-ok c =
    on_ok_weaker c.delay_line_text.result (delay_shown c.args.loading.now c.delay_totals-delay.result c.version.result _ _ c.version.ensures c.delay_totals-delay.ensures) c.delay_line_text.ensures.ok
