use Rattle.ltm_session_workers.proofs.Known.{stops_undone, stops_text}
use Rattle.ltm_session_workers.proofs.answering.line_beside.Goals as goal

pub returns-in_default-clause-err : goal.returns-in_default-clause-err
returns-in_default-clause-err g c =
    let (same, list, later) = rw c.in_default.is at c.answer_beside-editor.ensures.err in
    stops_undone c.args.line.now _ _ _ _ _ list later

pub returns-in-Err-clause-err : goal.returns-in-Err-clause-err
returns-in-Err-clause-err g c =
    let (words, is, longer) = rw c.in-Ok.is at c.answer_beside-editor.ensures.ok in
    stops_text c.args.line.now words _ _ _ _ _ _ _ _ _ _ c.in-Err.ensures.end is c.as_slice.ensures.value longer c.clear.ensures.items c.in-Err.ensures.err
