use Rattle.ltm_report.proofs.Telling.{sampled_told}
use Rattle.ltm_report.proofs.sampled_report.sampled_report_of.Goals as goal

pub returns : goal.returns
returns g c =
    sampled_told c.args.every c.args.scenario.now c.in_ok-loading.loading _ _ _ c.setup-setup.ensures.scenario c.in_ok-loading.ensures c.new-text.ensures.items
    c.in_ok-push_links.ensures c.in_ok-push_nodes.ensures
