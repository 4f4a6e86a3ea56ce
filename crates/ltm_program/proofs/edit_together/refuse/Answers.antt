use Rattle.ltm_program.proofs.Editing.{case_whole, case_front, case_fails, case_writes}
use Rattle.ltm_program.proofs.edit_together.refuse.Goals as goal

pub returns-in-Case-clause-whole : goal.returns-in-Case-clause-whole
returns-in-Case-clause-whole g c = case_whole c.args.refusal c.in-Case.fault c.in-Case.is _ _ _ c.refuse_fault.ensures.whole

pub returns-in-Case-clause-front : goal.returns-in-Case-clause-front
returns-in-Case-clause-front g c = case_front c.args.refusal c.in-Case.fault c.in-Case.is _ _ c.refuse_fault.ensures.front

pub returns-in-Case-clause-folder_fault : goal.returns-in-Case-clause-folder_fault
returns-in-Case-clause-folder_fault g c = case_fails c.args.refusal c.in-Case.fault c.in-Case.is _ _ _ c.refuse_fault.ensures.folder_fault

pub returns-in-Case-clause-cause : goal.returns-in-Case-clause-cause
returns-in-Case-clause-cause g c = case_writes c.args.refusal c.in-Case.fault c.in-Case.is _ _ c.refuse_fault.ensures.cause
