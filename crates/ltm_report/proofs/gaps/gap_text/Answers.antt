use Rattle.std.proofs.lemmas.Result.{on_ok_weaker}
use Rattle.ltm_setting.specs.Setting.{setting_of}
use Rattle.ltm_report.proofs.Gapped.{gap_shown}
use Rattle.ltm_report.proofs.gaps.gap_text.Goals as goal

pub returns-clause-ok : goal.returns-clause-ok
returns-clause-ok c =
    let s = setting_of c.args.scenario.now in
    let l = c.args.loading.now in
    on_ok_weaker c.gap_line_text.result
    (λ wrote. gap_shown s l c.version.result c.time_spent.result c.all.result c.args.into.now.items c.gap_line_text.new.into.items c.version.ensures c.time_spent.ensures
    (λ version counts shows. c.all.ensures s l version counts c.in_ok-gaps.ensures shows) wrote)
    c.gap_line_text.ensures.ok
