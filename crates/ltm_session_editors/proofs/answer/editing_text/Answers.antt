use Rattle.ltm_session_editors.proofs.Answered.{case_refused, edits_refused, text_answer, edits_missed}
use Rattle.ltm_session_editors.proofs.answer.editing_text.Goals as goal

pub returns-in-Err-clause-fault : goal.returns-in-Err-clause-fault
returns-in-Err-clause-fault g c = case_refused _ c.args.editors c.in-Err.fault c.in-Err.ensures.fault

pub returns-in-Err-read_edits-clause-fault : goal.returns-in-Err-read_edits-clause-fault
returns-in-Err-read_edits-clause-fault g c = edits_refused _ _ c.args.editors c.in-Ok.scenario c.in-Err-read_edits.fault c.read_kept_case.ensures.keeps c.in-Ok.ensures.ok c.in-Err-read_edits.ensures.fault

pub returns-in-Err-read_edits-clause-missed : goal.returns-in-Err-read_edits-clause-missed
returns-in-Err-read_edits-clause-missed g c = edits_missed _ c.args.editors _ _ _ c.in-Err-read_edits.fault c.read_kept_case.ensures.later c.in-Err-read_edits.ensures.missed

pub returns-in-Ok-edit_scenario-clause-text : goal.returns-in-Ok-edit_scenario-clause-text
returns-in-Ok-edit_scenario-clause-text g c =
    text_answer _ _ c.args.editors c.in-Ok.scenario c.in-Ok-read_edits.scripts.items c.in-Ok-edit_scenario.text.items c.read_kept_case.ensures.keeps c.in-Ok.ensures.ok c.in-Ok-read_edits.ensures.ok c.in-Ok-edit_scenario.ensures
