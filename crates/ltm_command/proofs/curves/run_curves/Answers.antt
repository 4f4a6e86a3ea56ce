use Rattle.std.proofs.Common.{inl, inr, refl, ap, sym, Ok, Err}
use Rattle.ltm_check_command.specs.declared.refusal.Refusal.TheVariants as refusal
use Rattle.ltm_command.specs.declared.words.Command.TheVariants as command
use Rattle.ltm_command.specs.declared.status.Status.TheVariants as ending
use Rattle.ltm_command.specs.Program.{IsTold, IsMissing, refusal_status, words_of}
use Rattle.ltm_command.proofs.Answering.{curves_told, curves_fault}
use Rattle.ltm_command.proofs.MissingFile.{curves_missed}
use Rattle.ltm_command.proofs.Running.{run_well, run_cut, run_stopped, run_refused, stays, missed}
use Rattle.ltm_command.proofs.Told.{said_answers, told_given, never_ok, never_read}
use Rattle.ltm_command.proofs.curves.run_curves.Goals as goal

pub returns-in-Ok-write_loading : goal.returns-in-Ok-write_loading
returns-in-Ok-write_loading g c = λ left read_faults.
    let (text, is, wrote) = c.in-Ok-write_loading.ensures.ok in
    run_well _ _ text _ _ (c.read_kept_case.ensures.keeps, stays _ _ command.Curves _ c.read_kept_case.ensures.others c.read_kept_case.ensures.unasked) (refl, refl)
    (Ok text, curves_told _ c.in-Ok.scenario text c.in-Ok.ensures.ok is, refl, refl) wrote

pub returns-in-Err-WriteFault : goal.returns-in-Err-WriteFault
returns-in-Err-WriteFault g c = λ left read_faults.
    let (text, is, front) = c.in-Err-WriteFault.ensures.fault (ap Err c.in-Err-WriteFault.field-0-is) in
    run_cut _ _ ending.WriteFault text _ _ (c.read_kept_case.ensures.keeps, stays _ _ command.Curves _ c.read_kept_case.ensures.others c.read_kept_case.ensures.unasked) (refl, refl)
    (Ok text, curves_told _ c.in-Ok.scenario text c.in-Ok.ensures.ok is, refl, refl) (inl refl) front (λ same. c.in-Err-WriteFault.ensures.cause (ap Err c.in-Err-WriteFault.field-0-is))

pub returns-in-Err-NoMemory : goal.returns-in-Err-NoMemory
returns-in-Err-NoMemory g c = λ left read_faults.
    elim (c.in-Err-NoMemory.ensures.memory (ap Err c.in-Err-NoMemory.field-0-is)) [
      | inl same ↦ run_stopped _ _ _ _ _ (c.read_kept_case.ensures.keeps, stays _ _ command.Curves _ c.read_kept_case.ensures.others c.read_kept_case.ensures.unasked) (refl, refl) same
      | inr (text, is, front) ↦
          run_cut _ _ ending.NoMemory text _ _ (c.read_kept_case.ensures.keeps, stays _ _ command.Curves _ c.read_kept_case.ensures.others c.read_kept_case.ensures.unasked) (refl, refl)
          (Ok text, curves_told _ c.in-Ok.scenario text c.in-Ok.ensures.ok is, refl, refl) (inr refl) front (λ is. absurd (cc))
    ]

pub returns-in-Err : goal.returns-in-Err
returns-in-Err g c = λ left read_faults.
    let e = refusal.Case c.in-Err.fault in
    run_refused _ _ _ (IsTold e) (IsMissing e) _ (refusal_status e) (words_of e) _ _ (c.read_kept_case.ensures.keeps, stays _ _ command.Curves _ c.read_kept_case.ensures.others c.read_kept_case.ensures.unasked) (refl, refl)
    (λ told. (Err e, said_answers command.Curves _ e (curves_fault _ c.in-Err.fault c.in-Err.ensures.fault) told, refl, refl))
    (told_given e) (λ is. never_ok e (sym is)) (λ is. never_read e (sym is))
    (λ missing. missed command.Curves _ _ _ (curves_missed _ _ _ c.in-Err.fault c.in-Err.ensures.asked c.in-Err.ensures.risen missing))
    c.refuse_fault.ensures.whole c.refuse_fault.ensures.front c.refuse_fault.ensures.folder_fault c.refuse_fault.ensures.cause
