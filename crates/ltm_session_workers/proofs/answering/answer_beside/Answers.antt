use Rattle.std.proofs.Common.{◌≡◌, Err, rules}
use Rattle.ltm_script.specs.Line.{reading}
use Rattle.ltm_session_workers.proofs.Known.{line_with, fault_with}
use Rattle.ltm_session_workers.proofs.answering.answer_beside.Goals as goal

pub returns-in-Ok-Settle-clause-ok : goal.returns-in-Ok-Settle-clause-ok
returns-in-Ok-Settle-clause-ok g c = line_with c.args.line.now _ _ _ _ _ _ _ _ (rw c.in-Ok-Settle.field-0-is at c.in-Ok-Settle.ensures.command (λ x. cc)) c.settle_line.ensures.ok

pub returns-in-Ok-clause-ok : goal.returns-in-Ok-clause-ok
returns-in-Ok-clause-ok g c = line_with c.args.line.now _ _ _ _ _ _ _ _ (c.in-Ok.ensures.command (λ x. cc)) c.reply_beside-editor.ensures.ok

pub returns-in-Err-clause-ok : goal.returns-in-Err-clause-ok
returns-in-Err-clause-ok g c =
    let reads : Err c.in-Err.fault ≡ reading c.args.line.now = search rules in
    fault_with c.args.line.now _ _ _ _ _ _ reads c.reply_fault-done.ensures.ok
