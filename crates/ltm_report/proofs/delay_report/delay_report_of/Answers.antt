use Rattle.ltm_report.proofs.Delayed.{case_told}
use Rattle.ltm_report.proofs.delay_report.delay_report_of.Goals as goal

pub returns : goal.returns
returns g c =
    case_told c.args.scenario.now c.in_ok-loading.loading _ _ _ _ c.setup-setup.ensures.scenario c.in_ok-loading.ensures c.new-text.ensures.items
    c.in_ok-delay_text.ensures.ok c.in_ok-push_links.ensures c.in_ok-push_nodes.ensures
