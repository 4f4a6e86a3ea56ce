use Rattle.std.proofs.lemmas.Result.{on_ok_weaker}
use Rattle.ltm_report.proofs.Reported.{totals_shown, totals_counted}
use Rattle.ltm_report.proofs.totals.totals_text.Goals as goal

pub returns-clause-ok : goal.returns-clause-ok
returns-clause-ok c =
    on_ok_weaker c.totals_line_text.result (totals_shown c.args.loading.now c.totals.result c.version.result _ _ c.version.ensures c.totals.ensures.shown) c.totals_line_text.ensures.ok

pub returns-clause-counted : goal.returns-clause-counted
returns-clause-counted c =
    on_ok_weaker c.totals_line_text.result (totals_counted c.args.loading.now c.totals.result c.version.result _ _ c.version.ensures c.totals.ensures.counted) c.totals_line_text.ensures.ok
