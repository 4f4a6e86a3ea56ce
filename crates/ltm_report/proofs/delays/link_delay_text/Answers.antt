use Rattle.std.proofs.lemmas.Result.{on_ok_weaker}
use Rattle.ltm_report.proofs.Delayed.{link_delay_shown}
use Rattle.ltm_report.proofs.delays.link_delay_text.Goals as goal

pub returns-clause-ok : goal.returns-clause-ok
returns-clause-ok c =
    on_ok_weaker c.link_delay_line_text.result (λ wrote s counts link is. link_delay_shown link c.args.name.now c.args.delay _ _ s counts is wrote)
    c.link_delay_line_text.ensures.ok
