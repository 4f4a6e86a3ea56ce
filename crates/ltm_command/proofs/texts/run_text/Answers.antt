use Rattle.std.proofs.Common.{refl, sym, Ok, Err}
use Rattle.ltm_command.specs.declared.status.Status.TheVariants as ending
use Rattle.ltm_command.specs.Program.{IsTold, IsMissing, refusal_status, words_of}
use Rattle.ltm_command.proofs.Running.{run_written, run_refused, stays, missed}
use Rattle.ltm_command.proofs.Told.{said_answers, told_given, never_ok, never_read}
use Rattle.ltm_command.proofs.texts.run_text.Goals as goal

pub returns-in-Ok : goal.returns-in-Ok
returns-in-Ok g c = λ left read_faults.
    run_written _ _ _ ending.Ok c.in-Ok.text.items _ _ (c.answer.ensures.keeps, stays _ _ c.args.command _ c.answer.ensures.others c.answer.ensures.unasked) (refl, refl) tt (λ is. cc)
    (Ok c.in-Ok.text.items, c.in-Ok.ensures.text, refl, refl) c.write_text.ensures.answers
    (λ ok. rw c.as_slice.ensures.value at (c.write_text.ensures.wrote (λ e. cc) (λ e. cc) ok)) (rw c.as_slice.ensures.value at c.write_text.ensures.front) (c.write_text.ensures.cause (λ e. cc))

pub returns-in-Err : goal.returns-in-Err
returns-in-Err g c = λ left read_faults.
    run_refused _ _ _ (IsTold c.in-Err.refusal) (IsMissing c.in-Err.refusal) _ (refusal_status c.in-Err.refusal) (words_of c.in-Err.refusal) _ _ (c.answer.ensures.keeps, stays _ _ c.args.command _ c.answer.ensures.others c.answer.ensures.unasked) (refl, refl)
    (λ told. (Err c.in-Err.refusal, said_answers _ _ c.in-Err.refusal c.in-Err.ensures.fault told, refl, refl))
    (told_given c.in-Err.refusal) (λ is. never_ok c.in-Err.refusal (sym is)) (λ is. never_read c.in-Err.refusal (sym is))
    (λ missing. missed c.args.command _ _ _ (c.answer.ensures.failed c.in-Err.refusal c.in-Err.is missing))
    c.refuse.ensures.whole c.refuse.ensures.front c.refuse.ensures.folder_fault c.refuse.ensures.cause
