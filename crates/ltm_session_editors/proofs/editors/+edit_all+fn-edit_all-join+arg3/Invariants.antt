use Rattle.ltm_session_editors.proofs.editors.+edit_all+fn-edit_all-join+arg3.Given as goal

abbrev pub decreases-edit_all : goal.decreases-edit_all
decreases-edit_all g l = l.editors

abbrev pub decreases-join+arg3 : goal.decreases-join+arg3
decreases-join+arg3 g l = l.rest
