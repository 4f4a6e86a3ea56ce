use Rattle.ltm_session.proofs.Reported.{on_ok_map, time_written}
use Rattle.ltm_session.proofs.reports.push_time.Goals as goal

pub returns-clause-ok : goal.returns-clause-ok
returns-clause-ok c =
    on_ok_map c.time_text.result _ _
    (time_written c.args.loading.now c.args.link.0 c.args.slot c.args.name.now c.version.result _ _ _ c.version.ensures c.travel-time.ensures.time)
    c.time_text.ensures.ok
