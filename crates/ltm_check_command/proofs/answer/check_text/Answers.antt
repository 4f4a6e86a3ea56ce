use Rattle.std.proofs.Common.{Ok}
use Rattle.ltm_check_command.proofs.Said.{case_refused, file_refused, file_answer, answer_refused, answer_missed, on_ok, on_err}
use Rattle.ltm_check_command.proofs.answer.check_text.Goals as goal

pub returns-in-Err-clause-fault : goal.returns-in-Err-clause-fault
returns-in-Err-clause-fault g c = case_refused _ c.in-Err.fault c.in-Err.ensures.fault

pub returns-in-Err-read_file-clause-fault : goal.returns-in-Err-read_file-clause-fault
returns-in-Err-read_file-clause-fault g c =
    file_refused _ _ c.in-Ok.scenario c.in-Err-read_file.refusal c.read_kept_case.ensures.keeps c.in-Ok.ensures.ok c.in-Err-read_file.ensures.fault

pub returns-clause-text : goal.returns-clause-text
returns-clause-text g c =
    on_ok c.answer_curves.result _ _
    (λ text says. file_answer _ _ c.in-Ok.scenario c.in-Ok-read_file.curves (Ok text.items) c.read_kept_case.ensures.keeps c.in-Ok.ensures.ok c.in-Ok-read_file.ensures.file says) c.answer_curves.ensures.text

pub returns-clause-fault : goal.returns-clause-fault
returns-clause-fault g c =
    on_err c.answer_curves.result _ _
    (λ e says. answer_refused _ _ c.in-Ok.scenario c.in-Ok-read_file.curves e c.read_kept_case.ensures.keeps c.in-Ok.ensures.ok c.in-Ok-read_file.ensures.file says) c.answer_curves.ensures.fault

pub returns-clause-missed : goal.returns-clause-missed
returns-clause-missed g c =
    on_err c.answer_curves.result _ _
    (λ e says. answer_missed _ _ _ _ c.in-Ok.scenario c.in-Ok-read_file.curves e c.in-Ok-read_file.ensures.file says) c.answer_curves.ensures.fault
