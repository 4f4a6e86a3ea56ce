use Rattle.std.proofs.Common.{refl, Ok, Err}
use Rattle.ltm_session_editors.specs.Answers.{IsTold, IsUngiven}
use Rattle.ltm_command.specs.declared.status.Status.TheVariants as ending
use Rattle.ltm_command.proofs.Running.{run_written, run_refused}
use Rattle.ltm_program.specs.Editors.{editing_status, editing_words}
use Rattle.ltm_program.proofs.Editing.{stays, told_given, never_ok, never_read}
use Rattle.ltm_program.proofs.edit_together.edit_together.Goals as goal

pub returns-in-Ok : goal.returns-in-Ok
returns-in-Ok g c = λ left read_faults.
    run_written _ _ _ ending.Ok c.in-Ok.text.items _ _ (c.editing_text.ensures.keeps, stays _ _ c.args.editors _ c.editing_text.ensures.others c.editing_text.ensures.unasked) (refl, refl) tt (λ is. cc)
    (Ok c.in-Ok.text.items, c.in-Ok.ensures.text, refl, refl) c.write_text.ensures.answers
    (λ ok. rw c.as_slice.ensures.value at (c.write_text.ensures.wrote (λ e. cc) (λ e. cc) ok)) (rw c.as_slice.ensures.value at c.write_text.ensures.front) (c.write_text.ensures.cause (λ e. cc))

pub returns-in-Err : goal.returns-in-Err
returns-in-Err g c = λ left read_faults.
    let e = c.in-Err.refusal in
    run_refused _ _ _ (IsTold e) (IsUngiven e) _ (editing_status (Err e)) (editing_words (Err e)) _ _
    (c.editing_text.ensures.keeps, stays _ _ c.args.editors _ c.editing_text.ensures.others c.editing_text.ensures.unasked) (refl, refl)
    (λ told. (Err e, c.in-Err.ensures.fault told, refl, refl)) (told_given e) (never_ok e) (never_read e) c.in-Err.ensures.missed
    c.refuse.ensures.whole c.refuse.ensures.front c.refuse.ensures.folder_fault c.refuse.ensures.cause
