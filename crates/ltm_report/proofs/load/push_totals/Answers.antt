use Rattle.std.proofs.lemmas.Result.{on_ok_weaker}
use Rattle.ltm_curve.specs.Table.{counts_of}
use Rattle.ltm_setting.specs.Setting.{setting_of}
use Rattle.ltm_report.proofs.Reported.{totals_are}
use Rattle.ltm_report.proofs.load.push_totals.Goals as goal

pub returns : goal.returns
returns c =
    on_ok_weaker c.totals_line_text.result (totals_are 0 (setting_of c.args.scenario.now) (counts_of c.args.curves.now) c.totals_at_end.result _ _ c.totals_at_end.ensures) c.totals_line_text.ensures.ok
