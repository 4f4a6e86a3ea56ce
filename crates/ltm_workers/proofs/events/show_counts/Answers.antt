use Rattle.ltm_workers.proofs.Editing.{publish_told, stays_one, publish_one}
use Rattle.ltm_workers.proofs.events.show_counts.Goals as goal

pub returns-clause-told : goal.returns-clause-told
returns-clause-told c = publish_told c.lists_tell_all.ensures _ _ c.publish.result c.publish.ensures.answer

pub returns-then-is_done-clause-one_event : goal.returns-then-is_done-clause-one_event
returns-then-is_done-clause-one_event c = stays_one c.args.core.now

pub returns-clause-one_event : goal.returns-clause-one_event
returns-clause-one_event c = publish_one c.calls_are_events.ensures _ _ c.publish.result c.publish.ensures.answer
