use Rattle.ltm_try_command.proofs.Reported.{some_width, is_trial}
use Rattle.ltm_try_command.proofs.trial.try_report.Goals as goal

pub returns-in-Ok-report_made-clause-text : goal.returns-in-Ok-report_made-clause-text
returns-in-Ok-report_made-clause-text c =
    let width = some_width c.args.nodes in
    is_trial c.args.start c.args.nodes width.0 c.in-Ok.made c.in-Ok-report_made.text.items width.1 (c.in-Ok.ensures.made width.0 width.1) c.in-Ok-report_made.ensures
