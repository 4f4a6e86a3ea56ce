use Rattle.ltm_report.specs.Answers.{settled_line}
use Rattle.ltm_session_workers.proofs.Known.{settled_so}
use Rattle.ltm_session_workers.proofs.answering.settle_in_room.Goals as goal

pub returns-clause-told : goal.returns-clause-told
returns-clause-told g c =
    let version = c.settle_beside-editor.result.2.version in
    let count = c.settle_beside-editor.result.2.count in
    (settled_line version count, settled_so c.logs_tell_all.ensures c.lists_tell_all.ensures version count _ _ _ _ c.settle_beside-editor.ensures.settled, c.push_settled.ensures)
