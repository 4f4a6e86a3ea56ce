use Rattle.ltm_workers.proofs.Editing.{commit_told, commit_one}
use Rattle.ltm_workers.proofs.events.commit_pair.Goals as goal

pub returns-in-Ok-clause-told : goal.returns-in-Ok-clause-told
returns-in-Ok-clause-told c = commit_told c.lists_tell_all.ensures _ _ c.args.done c.commit.result c.commit.ensures.answer

pub returns-in-Ok-clause-one_event : goal.returns-in-Ok-clause-one_event
returns-in-Ok-clause-one_event c = commit_one c.calls_are_events.ensures _ _ c.args.done c.commit.result c.commit.ensures.answer

pub returns-in-Stale-clause-one_event : goal.returns-in-Stale-clause-one_event
returns-in-Stale-clause-one_event c = commit_one c.calls_are_events.ensures _ _ c.args.done c.commit.result c.commit.ensures.answer
