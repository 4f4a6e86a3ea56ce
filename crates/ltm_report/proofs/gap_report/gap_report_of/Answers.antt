use Rattle.std.proofs.Common.{refl}
use Rattle.ltm_setting.specs.Setting.{setting_of}
use Rattle.ltm_report.proofs.Gapped.{gap_told, case_told}
use Rattle.ltm_report.proofs.gap_report.gap_report_of.Goals as goal

pub returns : goal.returns
returns g c =
    let s = setting_of c.args.scenario.now in
    let l = c.in_ok-loading.loading in
    case_told c.args.scenario.now l c.new-text.result.items c.gap_line_text.new.into.items c.push_destinations.new.into.items c.setup-setup.ensures.scenario c.in_ok-loading.ensures c.new-text.ensures.items
    (λ counts shows. gap_told s counts 0 0 c.time_spent.result c.all.result c.new-text.result.items c.gap_line_text.new.into.items refl (c.time_spent.ensures s 0 counts shows) (c.all.ensures s l 0 counts c.in_ok-gaps.ensures shows) c.in_ok-gap_line_text.ensures.ok)
    c.in_ok-push_destinations.ensures
