use Rattle.std.proofs.Common.{◌≡◌, length, drop, rules, sym, subst}
use Rattle.std.proofs.lemmas.List.{take_at}
use Rattle.ltm_setting.specs.Setting.{setting_of}
use Rattle.ltm_used.specs.Found.{MarksLeads}
use Rattle.ltm_used.proofs.Marking.{marks_leads}
use Rattle.ltm_used.proofs.leading.leads.Goals as goal

pub returns-clause-marks : goal.returns-clause-marks
returns-clause-marks c =
    let long : length c.mark_all.new.goes ≡ c.in_ok-goes.goes.len = search rules in
    subst (MarksLeads (setting_of c.args.scenario.now)) (sym (take_at c.mark_all.new.goes (drop (length c.mark_all.new.goes) c.in_ok-goes.goes.items) c.in_ok-goes.goes.len long))
    (marks_leads c.args.scenario.now c.mark_all.new.goes c.mark_all.ensures)
