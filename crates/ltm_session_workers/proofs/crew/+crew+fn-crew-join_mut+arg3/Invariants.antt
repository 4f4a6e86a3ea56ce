use Rattle.ltm_session_workers.proofs.crew.+crew+fn-crew-join_mut+arg3.Given as goal

abbrev pub decreases-crew : goal.decreases-crew
decreases-crew g l = l.workers

abbrev pub decreases-join_mut+arg3 : goal.decreases-join_mut+arg3
decreases-join_mut+arg3 g l = l.rest
